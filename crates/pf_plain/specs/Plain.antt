-- How namespaces share an array of frames. None of them is ever retired.

use Rattle.std.specs.Prelude.{◌≡◌, ℕ, suc, ◌-◌, List, [], ◌∷◌, length, Option, Some, slice_index_or}
use Rattle.pf_frame.specs.Live.{Live}
use Rattle.pf_machine.specs.State.{opening}
use Rattle.pf_pool.specs.declared.pool.FramePool.{FramePool}
use Rattle.pf_pool.specs.Pool.{pool_live, namespaces_of, frames_of, all_held}
use Rattle.pf_tables.specs.Meaning.{Namespace}
use Rattle.pf_tables.specs.Owns.{Owns}
use Rattle.pf_hub.specs.Tenants.{Tenant, Tenants, tenant_of}

-- no namespace
abbrev pub no_space : Namespace
no_space = record { limits = record { reserve = 0; soft = 0; hard = 0; max = 0 }; state = opening }

abbrev pub space_at : List Namespace → ℕ → Namespace
space_at spaces n = slice_index_or spaces n no_space

-- what the namespaces from number i on mean, given each one's live frames
abbrev pub tenants_from : (ℕ → Live) → ℕ → List Namespace → List (Option Tenant)
tenants_from live i [] = []
tenants_from live i (s ∷ ss) = Some (tenant_of (live i) s) ∷ tenants_from live (suc i) ss

-- what all namespaces mean
abbrev pub tenants_of : (ℕ → Live) → List Namespace → List (Option Tenant)
tenants_of live spaces = tenants_from live 0 spaces

-- what a contract sees of an array and the namespaces over it
abbrev pub plain_of : FramePool → List Namespace → Tenants
plain_of pool spaces = record { tenants = tenants_of (pool_live pool) spaces; free = frames_of pool - all_held pool }

-- the array has a door for each namespace, and the live frames of each number are those that its own rings name: none
-- where there is no namespace
pub record IsPlain (pool : FramePool) (spaces : List Namespace) : Type 0 where
  pub doors : namespaces_of pool ≡ length spaces
  pub owned : (n : ℕ) → Owns (pool_live pool n) (space_at spaces n)
