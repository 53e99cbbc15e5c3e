-- The steps that move no bytes, let nothing go and try no call again: what each makes of the state that the tables
-- keep, and when it may want memory.

use Rattle.std.specs.Prelude.{◌≡◌, ℕ, true, false, ◌&&◌, Result, Err, IsOk, ⊤}
use Rattle.pf_machine.specs.Machine.{Tries, deed_by, done_at, is_let_in, is_refusal, takes_memory}
use Rattle.pf_machine.specs.State.{Outcome}
use Rattle.pf_base.specs.declared.errno.Errno.{Errno}
use Rattle.pf_base.specs.declared.errno.Errno.TheVariants.{EINVAL}
use Rattle.pf_base.specs.declared.step.Reply.{Reply}
use Rattle.pf_base.specs.declared.step.Step.{Step}
use Rattle.pf_base.specs.declared.step.Step.TheVariants as steps
use Rattle.pf_frame.specs.Live.{Live}
use Rattle.pf_ring.specs.declared.ring.Window.{Window}
use Rattle.pf_tables.specs.Meaning.{Namespace, meaning}

-- whether a step is of such a kind
abbrev pub IsBooked : Step → Type 0
IsBooked (steps.Read pid fd n) = ⊥
IsBooked (steps.Write pid fd x) = ⊥
IsBooked (steps.Tee pid source sink n nonblock) = ⊥
IsBooked (steps.Splice pid source sink n nonblock) = ⊥
IsBooked (steps.Close pid fd) = ⊥
IsBooked (steps.Exit pid) = ⊥
IsBooked (steps.Resume pid) = ⊥
IsBooked _ = ⊤

-- what would look into slots is no part of it
abbrev pub untried : Tries Window
untried = record { moves = λ s pid p nonblock transfer. Err EINVAL; resumes = λ s pid p. Err EINVAL }

-- what it does, or the first error
abbrev pub own_of : Namespace → Step → Result (Outcome Window ℕ) Errno
own_of n step = done_at n.limits n.state (deed_by untried step)

-- it may want memory: whatever the frames hold, and whatever it is told, where one that goes through is told no refusal
abbrev pub MayWant : Namespace → Step → Type 0
MayWant n step = (f : Live) (reply : Reply) → (IsOk (own_of n step) → is_refusal reply ≡ false)
    → (takes_memory (meaning f n.state) step reply && is_let_in (meaning f n.state) step) ≡ true
