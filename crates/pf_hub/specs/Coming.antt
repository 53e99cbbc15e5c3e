-- A tenant more, over the frames of a depot.

use Rattle.std.specs.Prelude.{◌≡◌, List, [], ◌∷◌, ◌++◌, Option, Some}
use Rattle.pf_base.specs.declared.admission.AdmitFault.{AdmitFault}
use Rattle.pf_base.specs.declared.admission.AdmitFault.TheVariants.{NoMemory}
use Rattle.pf_base.specs.Limits.{Limits}
use Rattle.pf_depot.specs.declared.depot.Depot.{Depot}
use Rattle.pf_depot.specs.declared.loans.Loans.{Loans}
use Rattle.pf_depot.specs.Depot.{SetsAside}
use Rattle.pf_depot.specs.Loans.{loans_live}
use Rattle.pf_frame.specs.Live.{IsIdle}
use Rattle.pf_hub.specs.declared.tenant.Tenant.{Tenant as Lodger}
use Rattle.pf_hub.specs.Opening.{new_lodger}

-- one of these limits stands at the end, at its opening state, with vacant loans out of the depot's slack
pub record Adds {Z : Type 0} (d e : Depot) (old new : List (Option (Lodger Z))) (limits : Limits)
    (allocator : Z) : Type 0 where
  pub loans : Loans
  pub aside : SetsAside d e limits.reserve
  pub idle : IsIdle limits.reserve (loans_live loans)
  pub tenants : new ≡ old ++ Some (new_lodger (limits, allocator) loans) ∷ []

-- memory was refused, and nothing has changed
pub record AddsNothing {Z : Type 0} (d e : Depot) (old new : List (Option (Lodger Z)))
    (told : AdmitFault) : Type 0 where
  pub depot : e ≡ d
  pub tenants : new ≡ old
  pub fault : told ≡ NoMemory
