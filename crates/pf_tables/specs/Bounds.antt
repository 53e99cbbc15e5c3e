-- What a bound of a reply covers, over the frames of any door.

use Rattle.std.specs.Prelude.{ℕ, ◌≤◌}
use Rattle.pf_base.specs.declared.step.Step.{Step}
use Rattle.pf_machine.specs.Machine.{step_of}
use Rattle.pf_machine.specs.Replies.{reply_length}
use Rattle.pf_frame.specs.Live.{Live, IsSound}
use Rattle.pf_tables.specs.Meaning.{Namespace, meaning}
use Rattle.pf_tables.specs.Owns.{Owns}

-- the lone machine's reply to a step hands out no more
abbrev pub Covers : Namespace → Step → ℕ → Type 0
Covers n step bound =
    (f : Live) → IsSound f → Owns f n → reply_length (step_of n.limits (meaning f n.state) step).reply ≤ bound
