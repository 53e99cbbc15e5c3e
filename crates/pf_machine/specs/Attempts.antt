-- Calls that may wait, attempted: a call is finished with a reply, or it waits. The first attempt is a step of its own;
-- where it waits, its process parks, and each Resume makes the attempt again.
--
-- Ten definitions a Read passes, in this order, from its step to its reply:
--     call       (Machine)    the deed of a step is done
--     deed       (Machine)    whose it is, of a process that waits in no call, and what it does: a transfer
--     done_at    (Machine)    who calls: ESRCH, then EBUSY of a process that waits (`ready` in State)
--     transfer   (here)       the first attempt, and whether it may wait
--     attempt    (here)       what is tried, and what is told of how far it came
--     tried      (Transfers)  the end that the descriptor names: EBADF (`reading_end` in State)
--     try_read   (Transfers)  the pipe that it is an end of, and who writes it (`writers` in Counts)
--     read_now   (Progress)   over the queue alone: how far it comes, and what is left
--     read_told  (here)       so it is finished, with its bytes, or it waits
--     first      (here)       its reply; or EAGAIN, or its process parks
-- Then a refusal is made the reply, with the state as it was (`settle` in State), and what nobody can reach goes
-- (`swept` in Machine). A Write passes try_write, write_now and write_told in place of those of a read; a Tee and a
-- Splice try_cross, cross_now and cross_told. An Open comes in at `first` (Opens). A Resume makes `attempt` anew, and
-- then `again`.

use Rattle.std.specs.Prelude.{ℕ, ◌+◌, Bool, false, ◌||◌, List, [], length, Some, None, nat_eq, nat_lt, if◌then◌else◌, Result, Ok, Err}
use Rattle.pf_machine.specs.Refusals.{◌>>=◌, or_refuse}
use Rattle.pf_machine.specs.Queue.{Segment}
use Rattle.pf_machine.specs.Numbered.{first_free}
use Rattle.pf_machine.specs.Calls.{Transfer, Reading, Writing, Bringing, Call, Opening, Moving, written_of}
use Rattle.pf_machine.specs.State.{itself, State, Process, End, Outcome, end_at, end_of, with_process, change_process, with_descriptor, waiting, told}
use Rattle.pf_machine.specs.Transfers.{Tried, tried}
use Rattle.pf_base.specs.declared.errno.Errno.{Errno}
use Rattle.pf_base.specs.declared.errno.Errno.TheVariants.{EBADF, EAGAIN, EINVAL, EPIPE}
use Rattle.pf_base.specs.declared.progress.Progress.{Progress}
use Rattle.pf_base.specs.declared.progress.Progress.TheVariants.{Moved, WouldBlock, EndOfFile, NoReader}
use Rattle.pf_base.specs.declared.step.Reply.{Reply}
use Rattle.pf_base.specs.declared.step.Reply.TheVariants.{Num, Bytes, Parked, Err as Refused}

-- a call is finished, with what it leaves and its reply, or it waits, with what it has come to
pub data Attempt (X N : Type 0) : Type 0 where
  Finished : State X N → Reply → Attempt X N
  Waits : State X N → Call N → Attempt X N

-- Transfers

-- a read at the end of file is told that there are no bytes
abbrev pub read_told : Call ℕ → Tried → Progress → Result (Attempt Segment ℕ) Errno
read_told call t (Moved n) = Ok (Finished t.state (Bytes t.bytes))
read_told call t EndOfFile = Ok (Finished t.state (Bytes []))
read_told call t NoReader = Ok (Finished t.state (Bytes []))
read_told call t WouldBlock = Ok (Waits t.state call)

-- a write is finished once all its bytes went in. Where nobody reads them any more it is told how many went in, and
-- EPIPE where none did
abbrev pub write_told : ℕ → List ℕ → ℕ → Tried → Progress → Result (Attempt Segment ℕ) Errno
write_told fd x written t (Moved n) =
    if nat_eq (written + n) (length x) then Ok (Finished t.state (Num (length x)))
    else Ok (Waits t.state (Moving (Writing fd x (written + n))))
write_told fd x written t NoReader = if nat_eq written 0 then Err EPIPE else Ok (Finished t.state (Num written))
write_told fd x written t WouldBlock = Ok (Waits t.state (Moving (Writing fd x written)))
write_told fd x written t EndOfFile = Ok (Waits t.state (Moving (Writing fd x written)))

-- a tee and a splice are told how many bytes came: 0 at the end of file, and EPIPE where nobody reads the sink
abbrev pub cross_told : Call ℕ → Tried → Progress → Result (Attempt Segment ℕ) Errno
cross_told call t (Moved n) = Ok (Finished t.state (Num n))
cross_told call t EndOfFile = Ok (Finished t.state (Num 0))
cross_told call t NoReader = Err EPIPE
cross_told call t WouldBlock = Ok (Waits t.state call)

abbrev pub transfer_told : Transfer → Tried → Progress → Result (Attempt Segment ℕ) Errno
transfer_told (Reading fd n) = read_told (Moving (Reading fd n))
transfer_told (Writing fd x written) = write_told fd x written
transfer_told (Bringing c source sink n) = cross_told (Moving (Bringing c source sink n))

-- Opens

-- how often the other side of an end was opened
abbrev pub other_opens : {X N : Type 0} → End X N → ℕ
other_opens e = if e.description.reads then e.pipe.write_opens else e.pipe.read_opens

-- a process that has a description at its lowest free descriptor
abbrev pub given : {X N : Type 0} → State X N → ℕ → Process N → N → Attempt X N
given s pid p n =
    Finished (with_process s pid (with_descriptor (first_free p.descriptors) n p)) (Num (first_free p.descriptors))

-- a parked open is finished once the other side was opened after it parked, also where that side was closed again
abbrev pub open_told : {X N : Type 0} → State X N → ℕ → Process N → N → ℕ → End X N → Attempt X N
open_told s pid p n kept e = if nat_lt kept (other_opens e) then given s pid p n else Waits s (Opening n kept)

-- that open, tried again
abbrev pub reopened : {X N : Type 0} → (N → ℕ) → State X N → ℕ → Process N → N → ℕ → Result (Attempt X N) Errno
reopened number s pid p n kept = do
  e ← or_refuse EBADF (end_at number s (number n))
  Ok (open_told s pid p n kept e)

-- Both

abbrev pub attempt : State Segment ℕ → ℕ → Process ℕ → Call ℕ → Result (Attempt Segment ℕ) Errno
attempt s pid p (Opening n kept) = reopened itself s pid p n kept
attempt s pid p (Moving transfer) = do
  t ← tried s p transfer
  transfer_told transfer t t.progress

-- The first attempt

-- a process that waits in a call
abbrev pub parked : {X N : Type 0} → State X N → ℕ → Call N → Outcome X N
parked s pid call = told (change_process (waiting (Some call)) s pid) Parked

-- a nonblocking call doesn't wait: it is told how many bytes went in, and EAGAIN where none did
abbrev pub unwaiting : {X N : Type 0} → State X N → ℕ → Result (Outcome X N) Errno
unwaiting s written = if nat_eq written 0 then Err EAGAIN else Ok (told s (Num written))

abbrev pub first : {X N : Type 0} → ℕ → Bool → Attempt X N → Result (Outcome X N) Errno
first pid nonblock (Finished s reply) = Ok (told s reply)
first pid nonblock (Waits s call) = if nonblock then unwaiting s (written_of call) else Ok (parked s pid call)

-- whether the description at a descriptor has O_NONBLOCK
abbrev pub has_nonblock : {X N : Type 0} → (N → ℕ) → State X N → Process N → ℕ → Bool
has_nonblock {X} {N} number s p fd = of_end (end_of number s p fd)
  where
    of_end : Result (End X N) Errno → Bool
    of_end (Ok e) = e.description.nonblocking
    of_end (Err e) = false

abbrev pub is_nonblocking : State Segment ℕ → Process ℕ → ℕ → Bool
is_nonblocking s p fd = has_nonblock itself s p fd

-- or one of those of a transfer
abbrev pub any_nonblock : {X N : Type 0} → (N → ℕ) → State X N → Process N → Transfer → Bool
any_nonblock number s p (Reading fd n) = has_nonblock number s p fd
any_nonblock number s p (Writing fd x written) = has_nonblock number s p fd
any_nonblock number s p (Bringing c source sink n) = has_nonblock number s p source || has_nonblock number s p sink

abbrev pub nonblocking : State Segment ℕ → Process ℕ → Transfer → Bool
nonblocking s p call = any_nonblock itself s p call

-- a transfer as a step of its own: the step's flag and the descriptions say whether it may wait
abbrev pub transfer : State Segment ℕ → ℕ → Process ℕ → Bool → Transfer → Result (Outcome Segment ℕ) Errno
transfer s pid p flag call = do
  a ← attempt s pid p (Moving call)
  first pid (flag || nonblocking s p call) a

-- The others

-- every reply but Parked ends the call, also that it is refused. O_NONBLOCK is not asked again
abbrev pub again : {X N : Type 0} → State X N → ℕ → Result (Attempt X N) Errno → Outcome X N
again s pid (Ok (Finished t reply)) = told (change_process (waiting None) t pid) reply
again s pid (Ok (Waits t call)) = parked t pid call
again s pid (Err e) = told (change_process (waiting None) s pid) (Refused e)

-- the call in which a process waits, tried again
abbrev pub resume : State Segment ℕ → ℕ → Process ℕ → Result (Outcome Segment ℕ) Errno
resume s pid p = do
  call ← or_refuse EINVAL p.parked
  Ok (again s pid (attempt s pid p call))
