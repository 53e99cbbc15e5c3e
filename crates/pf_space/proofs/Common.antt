-- The words of the definitions that many proofs of this crate use, passed on from one place. Declares nothing.

pub use Rattle.pf_base.specs.Limits.{Limits}
pub use Rattle.pf_base.specs.declared.errno.Errno.{Errno}
pub use Rattle.pf_base.specs.declared.errno.Errno.TheVariants.{ESRCH}
pub use Rattle.pf_base.specs.declared.fault.Fault.{Fault}
pub use Rattle.pf_base.specs.declared.progress.Progress.{Progress}
pub use Rattle.pf_base.specs.declared.progress.Progress.TheVariants.{EndOfFile, Moved, NoReader, WouldBlock}
pub use Rattle.pf_base.specs.declared.step.Reply.{Reply}
pub use Rattle.pf_base.specs.declared.step.Step.{Step}
pub use Rattle.pf_frame.specs.Live.{Live}
pub use Rattle.pf_machine.specs.Attempts.{Finished, Waits, transfer_told}
pub use Rattle.pf_machine.specs.Calls.{Bringing, Call, Moving, Reading, Writing}
pub use Rattle.pf_machine.specs.Machine.{call}
pub use Rattle.pf_machine.specs.Numbered.{at, change_at}
pub use Rattle.pf_machine.specs.Queue.{Segment}
pub use Rattle.pf_machine.specs.Refusals.{or_refuse, ◌>>=◌}
pub use Rattle.pf_machine.specs.State.{Outcome, Process, State, itself, ready}
pub use Rattle.pf_machine.specs.Sweep.{sweep}
pub use Rattle.pf_machine.specs.Transfers.{Tried}
pub use Rattle.pf_ring.specs.declared.ring.Window.{Window}
pub use Rattle.pf_tables.specs.Meaning.{Namespace, meaning}
pub use Rattle.pf_tables.specs.Owns.{Owns}
pub use Rattle.pf_tables.specs.Told.{Told, ended, is_nonblocking_at, settled, tried_call, waits_in}
pub use Rattle.std.specs.Option.{option_map}
