-- Why frames can't be shared out under these reservations.

use Rattle.std.specs.Prelude.{◌≡◌, ℕ, List, length, sum, nat_lt, if◌then◌else◌, Option, Some, None}
use Rattle.pf_base.specs.declared.TheConstants.{MAX_FRAMES, MAX_NAMESPACES}
use Rattle.pf_frame.specs.declared.fault.PoolFault.{PoolFault}
use Rattle.pf_frame.specs.declared.fault.PoolFault.TheVariants.{TooManyNamespaces, TooManyFrames, ReservesExceed, NoMemory}

-- the first test that so many frames and these reservations fail, if any
abbrev pub fault_of : ℕ → List ℕ → Option PoolFault
fault_of frames reserves =
    if nat_lt MAX_NAMESPACES (length reserves) then Some TooManyNamespaces
    else if nat_lt MAX_FRAMES frames then Some TooManyFrames
    else if nat_lt frames (sum reserves) then Some (ReservesExceed (sum reserves) frames)
    else None

-- the fault of the first test that fails, and else that memory ran out
abbrev pub IsFault : Option PoolFault → PoolFault → Type 0
IsFault (Some first) fault = fault ≡ first
IsFault None fault = fault ≡ NoMemory
