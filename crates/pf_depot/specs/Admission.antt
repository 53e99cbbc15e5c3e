-- Why a namespace isn't admitted.

use Rattle.std.specs.Prelude.{◌≡◌, ℕ, nat_lt, if◌then◌else◌, Option, Some, None}
use Rattle.pf_base.specs.declared.TheConstants.{MAX_NAMESPACES, MAX_NUMBERS}
use Rattle.pf_base.specs.declared.admission.AdmitFault.{AdmitFault}
use Rattle.pf_base.specs.declared.admission.AdmitFault.TheVariants.{NoRoom, TooManyNamespaces, NoMemory}

-- the test of a reservation against the slack, where it fails
abbrev pub room_fault : ℕ → ℕ → Option AdmitFault
room_fault slack reserve = if nat_lt slack reserve then Some (NoRoom slack) else None

-- the first test that fails where so many namespaces live and so many numbers are given, if any
abbrev pub admit_fault : ℕ → ℕ → ℕ → ℕ → Option AdmitFault
admit_fault living given slack reserve =
    if nat_lt living MAX_NAMESPACES
    then (if nat_lt given MAX_NUMBERS then room_fault slack reserve else Some TooManyNamespaces)
    else Some TooManyNamespaces

-- the fault of the first test that fails, and else that memory ran out
abbrev pub IsAdmitFault : Option AdmitFault → AdmitFault → Type 0
IsAdmitFault (Some first) fault = fault ≡ first
IsAdmitFault None fault = fault ≡ NoMemory
