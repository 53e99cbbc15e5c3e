-- Namespaces come and go, as C is told.

use Rattle.std.specs.Prelude.{◌≡◌, ℕ, ℤ, pos, Option, Some, None, Result, Ok, Err, MatchResult}
use Rattle.std.specs.Global.{Global}
use Rattle.pf_base.specs.declared.admission.AdmitFault.{AdmitFault}
use Rattle.pf_base.specs.declared.admission.AdmitFault.TheVariants as admission
use Rattle.pf_base.specs.declared.admission.RetireFault.{RetireFault}
use Rattle.pf_base.specs.declared.admission.RetireFault.TheVariants.{NoSuchNamespace, Alive}
use Rattle.pf_base.specs.declared.config.ConfigFault.{ConfigFault}
use Rattle.pf_base.specs.declared.errno.Errno.TheVariants.{EBUSY, EINVAL, ENOMEM, ENOSPC}
use Rattle.pf_base.specs.Limits.{Limits}
use Rattle.pf_hub.specs.Events.{IsAdmitted, IsNotAdmitted, IsRetired, IsNotRetired}
use Rattle.pf_c.specs.Codes.{refused, no_memory, no_namespace}
use Rattle.pf_c.specs.Opened.{config_in}
use Rattle.pf_c.specs.Rows.{Held}
use Rattle.pf_c.specs.declared.opening.SagLimits.{SagLimits}

-- An admission

-- the number; or why there is none: too little is left to reserve, which is no want of memory of the heap; too many
-- live, or were given a number (clone(2), ENOSPC)
abbrev pub code_of_admission : Result ℕ AdmitFault → ℤ
code_of_admission (Ok number) = pos number
code_of_admission (Err (admission.NoRoom slack)) = refused ENOMEM
code_of_admission (Err admission.TooManyNamespaces) = refused ENOSPC
code_of_admission (Err admission.NoMemory) = no_memory

-- what C is told of a hub's own answer
pub record ToldAdmission (old new : Held) (limits : Limits) (alloc : Global) (code : ℤ) : Type 0 where
  pub answer : Result ℕ AdmitFault
  pub admission : MatchResult answer (IsAdmitted old new limits alloc) (IsNotAdmitted old new limits)
  pub says : code ≡ code_of_admission answer

-- limits out of their ranges change nothing
abbrev pub AdmissionOf : Result Limits ConfigFault → Held → Held → Global → ℤ → Type 0
AdmissionOf (Ok limits) old new alloc code = ToldAdmission old new limits alloc code
AdmissionOf (Err fault) old new alloc code = (new ≡ old) × (code ≡ refused EINVAL)

-- a shut handle stays shut, and has no namespace
abbrev pub Admission : Option Held → Option Held → SagLimits → Global → ℤ → Type 0
Admission None None limits alloc code = code ≡ no_namespace
Admission None (Some new) limits alloc code = ⊥
Admission (Some old) None limits alloc code = ⊥
Admission (Some old) (Some new) limits alloc code = AdmissionOf (config_in limits) old new alloc code

-- A retirement

abbrev pub code_of_retirement : Result (Unit {0}) RetireFault → ℤ
code_of_retirement (Ok done) = pos 0
code_of_retirement (Err NoSuchNamespace) = no_namespace
code_of_retirement (Err (Alive processes)) = refused EBUSY

pub record ToldRetirement (old new : Held) (n : ℕ) (code : ℤ) : Type 0 where
  pub answer : Result (Unit {0}) RetireFault
  pub retirement : MatchResult answer (λ _. IsRetired old new n) (IsNotRetired old new n)
  pub says : code ≡ code_of_retirement answer

abbrev pub Retirement : Option Held → Option Held → ℕ → ℤ → Type 0
Retirement None None n code = code ≡ no_namespace
Retirement None (Some new) n code = ⊥
Retirement (Some old) None n code = ⊥
Retirement (Some old) (Some new) n code = ToldRetirement old new n code
