-- What the end of a service compares.

use Rattle.std.specs.Prelude.{◌≡◌, ℕ, ◌<◌, List, length, slice_get, Some, option_map}
use Rattle.pf_base.specs.Limits.{Limits}
use Rattle.pf_service.specs.declared.fault.CloseFault.{CloseFault}
use Rattle.pf_service.specs.declared.fault.CloseFault.TheVariants.{Disagree, SeatsMissing, NoMemory}
use Rattle.pf_service.specs.Merge.{IsMerge}
use Rattle.pf_service.specs.Seats.{OneSeat, lists_of, AreGiven}
use Rattle.pf_service.specs.Transcripts.{OneTranscript, IsLone, transcript_at}

-- these are the limits that a namespace was given. One that was admitted was given none here
abbrev pub HasLimits : List Limits → ℕ → Limits → Type 0
HasLimits configs n limits = n < length configs → slice_get configs n ≡ Some limits

-- a namespace was given the limits of this transcript, which is a merge of what the namespace's seats keep
pub record Fits (configs : List Limits) (t : OneTranscript) (seats : List OneSeat) (n : ℕ) : Type 0 where
  pub limits : HasLimits configs n t.limits
  pub merge : IsMerge t.entries (lists_of n seats)

-- a namespace has a transcript where it was given limits, under these limits, and it is a merge of what the namespace's
-- seats keep
pub record Agrees (configs : List Limits) (ts : List OneTranscript) (seats : List OneSeat) (n : ℕ) : Type 0 where
  pub limits : n < length configs → option_map (λ t. t.limits) (slice_get ts n) ≡ slice_get configs n
  pub merge : IsMerge (transcript_at ts n).entries (lists_of n seats)

-- why seats don't fit these transcripts, of namespaces that gave so many seats each
abbrev pub IsCause : List Limits → List OneTranscript → List ℕ → List OneSeat → CloseFault → Type 0
IsCause configs ts given seats (Disagree n) =
    AreGiven given seats × (Agrees configs ts seats n → ⊥) × ((m : ℕ) → m < n → Agrees configs ts seats m)
IsCause configs ts given seats SeatsMissing = AreGiven given seats → ⊥
IsCause configs ts given seats NoMemory = Unit {0}

-- each namespace agrees, the replies of its transcript are the lone machine's, and its seats are those numbered from 0 up
-- to some number, each once: how many were given is known behind the lock alone
pub record IsClosed (configs : List Limits) (seats : List OneSeat) (ts : List OneTranscript) : Type 0 where
  pub agrees : (n : ℕ) → Agrees configs ts seats n
  pub alone : (n : ℕ) → IsLone (transcript_at ts n)
  pub given : (given : List ℕ) × AreGiven given seats

-- these seats don't fit some transcripts and some numbers of seats: which ones lay behind the lock isn't said
abbrev pub IsClosedFault : List Limits → List OneSeat → CloseFault → Type 0
IsClosedFault configs seats fault = (ts : List OneTranscript) × (given : List ℕ) × IsCause configs ts given seats fault

-- these seats don't fit what lay behind the locks, or memory was wanted
abbrev pub IsUnlockedFault : (List OneTranscript → List ℕ → Type 0) → List Limits → List OneSeat → CloseFault → Type 0
IsUnlockedFault Lay configs seats NoMemory = Unit {0}
IsUnlockedFault Lay configs seats fault =
    (ts : List OneTranscript) × (given : List ℕ) × Lay ts given × IsCause configs ts given seats fault
