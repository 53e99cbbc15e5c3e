-- What is said of an answer about a namespace.

use Rattle.pf_service.specs.Log.{Log}
use Rattle.pf_service.specs.Tenants.{IsGoneFault, IsLivingAt}
use Rattle.pf_service.specs.declared.fault.ServiceFault.{ServiceFault}
use Rattle.pf_service.specs.declared.seated.Seated.{Seated as OneSeated}

-- it is of one that lived behind a lock when it was taken
abbrev pub IsOfOneThere : {A C H : Type 0} → (OneSeated A C H → Type 0) → (Log A → Type 0) → Type 0
IsOfOneThere {A} {C} {H} Lay Is = (s : OneSeated A C H) × (log : Log A) × Lay s × IsLivingAt s.tenant log × Is log

-- nothing is told, since one that is retired lay there
abbrev pub IsGoneThere : {A C H : Type 0} → (OneSeated A C H → Type 0) → ServiceFault → Type 0
IsGoneThere {A} {C} {H} Lay fault = (s : OneSeated A C H) × Lay s × IsGoneFault s.tenant fault
