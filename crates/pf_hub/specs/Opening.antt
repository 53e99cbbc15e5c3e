-- How a hub opens.

use Rattle.std.specs.Prelude.{ℕ, List, [], ◌∷◌, map, Option, Some}
use Rattle.pf_base.specs.Limits.{Limits}
use Rattle.pf_machine.specs.State.{opening}
use Rattle.pf_depot.specs.declared.loans.Loans.{Loans}
use Rattle.pf_frame.specs.declared.fault.PoolFault.{PoolFault}
use Rattle.pf_frame.specs.Faults.{fault_of}
use Rattle.pf_space.specs.declared.placed.Placed.{Placed}
use Rattle.pf_tables.specs.Meaning.{Namespace}
use Rattle.pf_hub.specs.declared.tenant.Tenant.{Tenant as Lodger}
use Rattle.pf_hub.specs.Tenants.{Tenant, Tenants}

-- the limits alone, without the allocators that stand beside them
abbrev pub limits_of : {Z : Type 0} → List (Limits × Z) → List Limits
limits_of configs = map (λ e. e.0) configs

-- and the allocators alone
abbrev pub allocators_of : {Z : Type 0} → List (Limits × Z) → List Z
allocators_of configs = map (λ e. e.1) configs

-- a namespace of these limits that nothing has happened to
abbrev pub new_space : Limits → Namespace
new_space limits = record { limits = limits; state = opening }

-- and its files stand in memory of the allocator beside them
abbrev pub new_placed : {Z : Type 0} → Limits × Z → Placed Z
new_placed e = record { space = new_space e.0; allocator = e.1 }

-- the same beside its loans
abbrev pub new_lodger : {Z : Type 0} → Limits × Z → Loans → Lodger Z
new_lodger e loans = record { loans = loans; placed = new_placed e }

-- and of several, each beside its own
abbrev pub new_lodgers : {Z : Type 0} → List (Limits × Z) → List Loans → List (Option (Lodger Z))
new_lodgers [] loans = []
new_lodgers (e ∷ es) [] = []
new_lodgers (e ∷ es) (l ∷ loans) = Some (new_lodger e l) ∷ new_lodgers es loans

-- the same, as a contract sees it: it holds no frame
abbrev pub new_tenant : Limits → Tenant
new_tenant limits = record { limits = limits; state = opening; held = 0 }

-- a namespace of each of these limits, all of which live, and nobody holds any of so many frames
abbrev pub new_hub : List Limits → ℕ → Tenants
new_hub configs frames = record { tenants = map (λ limits. Some (new_tenant limits)) configs; free = frames }

-- and the allocator of each
abbrev pub new_allocators : {Z : Type 0} → List (Limits × Z) → List (Option Z)
new_allocators configs = map (λ e. Some e.1) configs

-- the first test that so many frames and these limits fail, if any
abbrev pub first_fault : ℕ → List Limits → Option PoolFault
first_fault frames configs = fault_of frames (map (λ l. l.reserve) configs)
