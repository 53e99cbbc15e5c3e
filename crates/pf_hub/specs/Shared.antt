-- How the namespaces of a hub share its depot.

use Rattle.std.specs.Prelude.{◌≡◌, ℕ, ◌+◌, ◌≤◌, List, length, map, Option, Some}
use Rattle.std.specs.Option.{option_map}
use Rattle.pf_base.specs.declared.TheConstants.{MAX_NAMESPACES, MAX_NUMBERS}
use Rattle.pf_machine.specs.Numbered.{at, sum_of}
use Rattle.pf_depot.specs.declared.depot.Depot.{Depot}
use Rattle.pf_depot.specs.AllLoans.{held_of, reserved_of}
use Rattle.pf_depot.specs.Depot.{free_of, frames_of, slack_of}
use Rattle.pf_depot.specs.Loans.{loans_live}
use Rattle.pf_tables.specs.Owns.{Owns}
use Rattle.pf_hub.specs.declared.tenant.Tenant.{Tenant as Lodger}
use Rattle.pf_hub.specs.Tenants.{Tenant, Tenants, Housed, tenant_of}

module _ {Z : Type 0} where
  -- what a tenant means: its lone machine, and how many frames it holds
  abbrev pub shown : Lodger Z → Tenant
  shown t = tenant_of (loans_live t.loans) t.placed.space

  abbrev pub held_in : Lodger Z → ℕ
  held_in t = held_of t.loans

  abbrev pub reserved_by : Lodger Z → ℕ
  reserved_by t = reserved_of t.loans

  -- what a contract sees of a depot, and of the tenants over it
  abbrev pub hub_of : Depot → List (Option (Lodger Z)) → Tenants
  hub_of depot tenants = record { tenants = map (option_map shown) tenants; free = free_of depot }

  abbrev pub allocators_in : List (Option (Lodger Z)) → List (Option Z)
  allocators_in tenants = map (option_map (λ t. t.placed.allocator)) tenants

  abbrev pub housed : Depot → List (Option (Lodger Z)) → Housed Z
  housed depot tenants = record { world = hub_of depot tenants; allocators = allocators_in tenants }

  -- each tenant's live frames are those that its own rings name; the free frames and those on loan are all frames, and so
  -- are the slack and what those who live have reserved, so the credits of all of them together are at most the free
  -- frames; and so many live, under so many numbers
  pub record IsShared (depot : Depot) (tenants : List (Option (Lodger Z))) (alive : ℕ) : Type 0 where
    pub owned : (n : ℕ) (t : Lodger Z) → at tenants n ≡ Some t → Owns (loans_live t.loans) t.placed.space
    pub all : free_of depot + sum_of held_in tenants ≡ frames_of depot
    pub reserved : slack_of depot + sum_of reserved_by tenants ≡ frames_of depot
    pub living : alive ≡ sum_of (λ t. 1) tenants
    pub few : alive ≤ MAX_NAMESPACES
    pub numbers : length tenants ≤ MAX_NUMBERS
