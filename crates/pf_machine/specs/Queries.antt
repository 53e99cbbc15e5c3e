-- What a host may ask of a namespace besides its steps: who can go on, and what an end of a pipe is ready for (poll(2)).
-- A query changes nothing.

use Rattle.std.specs.Prelude.{◌≡◌, ℕ, ◌<◌, Bool, true, false, not, ◌&&◌, ◌||◌, is_some, length, nat_eq, nat_lt, if◌then◌else◌, Option, Some, None, Result, Ok}
use Rattle.pf_base.specs.Limits.{Limits}
use Rattle.pf_base.specs.declared.errno.Errno.{Errno}
use Rattle.pf_base.specs.declared.readiness.Readiness.{Readiness}
use Rattle.pf_base.specs.declared.step.Step.TheVariants.{Resume}
use Rattle.pf_machine.specs.Refusals.{◌>>=◌}
use Rattle.pf_machine.specs.Queue.{Segment, Queue, bytes_of, room_of, free_of}
use Rattle.pf_machine.specs.Progress.{portion, is_empty}
use Rattle.pf_machine.specs.State.{itself, State, Outcome, End, ready, end_of}
use Rattle.pf_machine.specs.Counts.{readers, writers}
use Rattle.pf_machine.specs.Machine.{call_of, is_parked, step_of}
use Rattle.pf_machine.specs.Replies.{written_in}

-- Who can go on

-- whether a process that waited came further by a step: it was told something else than Parked, or more bytes of its
-- write went in
abbrev pub came_further : State Segment ℕ → ℕ → Outcome Segment ℕ → Bool
came_further s pid o = not (is_parked o.reply && nat_eq (written_in (call_of o.state pid)) (written_in (call_of s pid)))

-- whether the call in which a process waits comes further when it is tried again. Who waits in no call has none
abbrev pub can_go_on : Limits → State Segment ℕ → ℕ → Bool
can_go_on c s pid = is_some (call_of s pid) && came_further s pid (step_of c s (Resume pid))

-- the least pid above one whose process can go on, if there is one
abbrev pub IsNext : Limits → State Segment ℕ → ℕ → Option ℕ → Type 0
IsNext c s after (Some pid) =
    (after < pid) × (can_go_on c s pid ≡ true) × ((q : ℕ) → after < q → q < pid → can_go_on c s q ≡ false)
IsNext c s after None = (q : ℕ) → after < q → can_go_on c s q ≡ false

-- Which transfers that wait can go on, by what the pipes hold and how many read and write them

-- a read finds bytes, or asks for none, or nobody writes any more
abbrev pub read_goes_on : Queue → ℕ → ℕ → Bool
read_goes_on q writers n = nat_eq n 0 || nat_lt 0 (length (bytes_of q)) || nat_eq writers 0

-- some of what is left of a write goes in, or nothing is left, or nobody reads any more
abbrev pub write_goes_on : Queue → ℕ → Bool → ℕ → Bool
write_goes_on q readers whole left = nat_eq left 0 || nat_eq readers 0 || not (nat_eq (portion whole left (room_of q)) 0)

-- bytes come where the source has some and the sink a free slot; or none are asked for, or the other side of one is gone
abbrev pub cross_goes_on : Queue → Queue → ℕ → ℕ → ℕ → Bool
cross_goes_on source sink writers readers n =
    nat_eq n 0 || nat_eq readers 0 || (if is_empty source then nat_eq writers 0 else not (nat_eq (free_of sink) 0))

-- What an end is ready for

-- how many bytes there are to read (ioctl(2), FIONREAD), how many a write may have that goes in whole, and whether
-- somebody reads the pipe and somebody writes it
abbrev pub ready_for : State Segment ℕ → End Segment ℕ → Readiness
ready_for s e = record {
  bytes = length (bytes_of e.pipe.queue);
  room = room_of e.pipe.queue;
  has_reader = nat_lt 0 (readers itself s e.description.pipe);
  has_writer = nat_lt 0 (writers itself s e.description.pipe);
}

-- of the end that a descriptor names; refused as a question for its capacity is (GetSize)
abbrev pub readiness : State Segment ℕ → ℕ → ℕ → Result Readiness Errno
readiness s pid fd = do
  p ← ready s pid
  e ← end_of itself s p fd
  Ok (ready_for s e)
