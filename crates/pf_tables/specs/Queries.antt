-- Who can go on, and what an end is ready for, over the frames of any door.

use Rattle.std.specs.Prelude.{◌≡◌, ℕ, Bool, Option, Result}
use Rattle.pf_base.specs.declared.errno.Errno.{Errno}
use Rattle.pf_base.specs.declared.readiness.Readiness.{Readiness}
use Rattle.pf_machine.specs.Queries.{can_go_on, readiness, IsNext}
use Rattle.pf_frame.specs.Live.{Live, IsSound}
use Rattle.pf_tables.specs.Meaning.{Namespace, meaning}
use Rattle.pf_tables.specs.Owns.{Owns}

-- the lone machine's answer
abbrev pub GoesOn : Namespace → ℕ → Bool → Type 0
GoesOn n pid answer =
    (f : Live) → IsSound f → Owns f n → answer ≡ can_go_on n.limits (meaning f n.state) pid

-- the next one of the lone machine
abbrev pub GoesOnNext : Namespace → ℕ → Option ℕ → Type 0
GoesOnNext n after answer =
    (f : Live) → IsSound f → Owns f n → IsNext n.limits (meaning f n.state) after answer

-- the lone machine's answer, or its refusal
abbrev pub IsReadiness : Namespace → ℕ → ℕ → Result Readiness Errno → Type 0
IsReadiness n pid fd answer =
    (f : Live) → IsSound f → Owns f n → answer ≡ readiness (meaning f n.state) pid fd
