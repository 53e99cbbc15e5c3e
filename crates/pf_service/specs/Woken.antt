-- Which events are of no use to whoever waits.

use Rattle.std.specs.Prelude.{ℕ, Bool, true, false, ◌&&◌, nat_eq}
use Rattle.pf_machine.specs.Queue.{Segment}
use Rattle.pf_machine.specs.State.{State}
use Rattle.pf_machine.specs.Machine.{call_of}
use Rattle.pf_machine.specs.Replies.{written_in}
use Rattle.pf_base.specs.declared.step.Step.{Step}
use Rattle.pf_base.specs.declared.step.Step.TheVariants.{Resume}
use Rattle.pf_base.specs.declared.step.Reply.{Reply}
use Rattle.pf_base.specs.declared.step.Reply.TheVariants.{Parked}

-- a process that was tried again waits on
abbrev pub is_parked_again : Step → Reply → Bool
is_parked_again (Resume pid) Parked = true
is_parked_again _ _ = false

-- how many bytes went in of the write that a Resume tries again
abbrev pub written_by : State Segment ℕ → Step → ℕ
written_by s (Resume pid) = written_in (call_of s pid)
written_by s _ = 0

-- a Resume that waits on, and moved nothing: its write has written what it had before
abbrev pub is_idle : State Segment ℕ → State Segment ℕ → Step → Reply → Bool
is_idle old new step reply = is_parked_again step reply && nat_eq (written_by new step) (written_by old step)
