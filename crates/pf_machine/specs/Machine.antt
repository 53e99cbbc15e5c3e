-- The lone machine: one namespace with no pool, no frames, and no other namespace. It is a function: every
-- choice (pid, descriptor, capacity, number of bytes) is fixed.

use Rattle.std.specs.Prelude.{◌≡◌, ℕ, ◌+◌, List, length, Bool, true, false, not, ◌&&◌, ◌||◌, nat_lt}
use Rattle.std.specs.Prelude.{Option, Some, None, is_some, Result}
use Rattle.std.specs.Option.{option_and_then}
use Rattle.pf_machine.specs.Refusals.{◌>>=◌}
use Rattle.pf_base.specs.Limits.{Limits}
use Rattle.pf_machine.specs.Queue.{Segment}
use Rattle.pf_base.specs.declared.TheConstants.{BYTES_IN_PLACE}
use Rattle.pf_base.specs.declared.errno.Errno.{Errno}
use Rattle.pf_base.specs.declared.meta.Kind.TheVariants as kinds
use Rattle.pf_base.specs.declared.progress.Crossing.TheVariants as crossings
use Rattle.pf_base.specs.declared.step.Step.{Step}
use Rattle.pf_base.specs.declared.step.Step.TheVariants as steps
use Rattle.pf_base.specs.declared.step.Reply.{Reply}
use Rattle.pf_base.specs.declared.step.Reply.TheVariants.{Bytes, Parked, Err as Refused}
use Rattle.pf_base.specs.declared.step.Answer.{Answer}
use Rattle.pf_base.specs.declared.step.Answer.TheVariants.{Done, NoMemory}
use Rattle.pf_machine.specs.State.{itself, State, Process, Outcome, settle, process, living, ready}
use Rattle.pf_machine.specs.Processes.{spawn, fork, exit}
use Rattle.pf_machine.specs.Descriptors.{dup, close, set_nonblock}
use Rattle.pf_machine.specs.Pipes.{pipe, set_size, get_size}
use Rattle.pf_machine.specs.Calls.{Call, Moving, Transfer, Reading, Writing, Bringing}
use Rattle.pf_machine.specs.Attempts.{transfer, resume}
use Rattle.pf_machine.specs.Opens.{open_path, access_of}
use Rattle.pf_machine.specs.Paths.{has_dots}
use Rattle.pf_machine.specs.Files.{make, unlink, rmdir, chmod, stat, list}
use Rattle.pf_machine.specs.Sweep.{sweep}

-- Steps

-- whose a step is, and what it does then, whatever slots hold: nobody's; one of a process that is to live; one of a
-- process that is to wait in no call either
pub data Deed (X : Type 0) : Type 0 where
  OfNobody : (Limits → State X ℕ → Result (Outcome X ℕ) Errno) → Deed X
  OfLiving : ℕ → (Limits → State X ℕ → Process ℕ → Result (Outcome X ℕ) Errno) → Deed X
  OfReady : ℕ → (Limits → State X ℕ → Process ℕ → Result (Outcome X ℕ) Errno) → Deed X

-- what alone looks into slots: a transfer, tried for the first time, and the call in which a process waits, tried again
pub record Tries (X : Type 0) : Type 0 where
  pub moves : State X ℕ → ℕ → Process ℕ → Bool → Transfer → Result (Outcome X ℕ) Errno
  pub resumes : State X ℕ → ℕ → Process ℕ → Result (Outcome X ℕ) Errno

abbrev pub deed_by : {X : Type 0} → Tries X → Step → Deed X
deed_by t (steps.Spawn uid gid umask groups) =
    OfNobody (λ c s. spawn s (record { uid = uid; gid = gid; groups = groups; umask = umask }))
deed_by t (steps.Exit pid) = OfLiving pid (λ c s p. exit s pid)
deed_by t (steps.Resume pid) = OfLiving pid (λ c s p. t.resumes s pid p)
deed_by t (steps.Fork pid) = OfReady pid (λ c s p. fork s p)
deed_by t (steps.Mkdir pid path mode) = OfReady pid (λ c s p. make kinds.Directory s p path mode)
deed_by t (steps.Mkfifo pid path mode) = OfReady pid (λ c s p. make kinds.Fifo s p path mode)
deed_by t (steps.Unlink pid path) = OfReady pid (λ c s p. unlink s p path)
deed_by t (steps.Rmdir pid path) = OfReady pid (λ c s p. rmdir s p path)
deed_by t (steps.Chmod pid path mode) = OfReady pid (λ c s p. chmod s p path mode)
deed_by t (steps.Stat pid path) = OfReady pid (λ c s p. stat s p path)
deed_by t (steps.List pid path) = OfReady pid (λ c s p. list s p path)
deed_by t (steps.Open pid path flags) =
    OfReady pid (λ c s p. open_path itself (length s.descriptions) itself c s pid p path (access_of flags.0))
deed_by t (steps.Pipe pid nonblock) =
    OfReady pid
    (λ c s p. pipe (length s.descriptions) (length s.descriptions + 1) (length s.pipes) c s pid p nonblock)
deed_by t (steps.Dup pid fd) = OfReady pid (λ c s p. dup s pid p fd)
deed_by t (steps.Close pid fd) = OfReady pid (λ c s p. close s pid p fd)
deed_by t (steps.Read pid fd n) = OfReady pid (λ c s p. t.moves s pid p false (Reading fd n))
deed_by t (steps.Write pid fd payload) = OfReady pid (λ c s p. t.moves s pid p false (Writing fd payload 0))
deed_by t (steps.Tee pid source sink n nonblock) =
    OfReady pid (λ c s p. t.moves s pid p nonblock (Bringing crossings.Tee source sink n))
deed_by t (steps.Splice pid source sink n nonblock) =
    OfReady pid (λ c s p. t.moves s pid p nonblock (Bringing crossings.Splice source sink n))
deed_by t (steps.SetSize pid fd bytes) = OfReady pid (λ c s p. set_size itself c s p fd bytes)
deed_by t (steps.GetSize pid fd) = OfReady pid (λ c s p. get_size itself s p fd)
deed_by t (steps.SetNonblock pid fd on) = OfReady pid (λ c s p. set_nonblock itself s p fd on)

-- a step's own, where slots hold segments
abbrev pub deed : Step → Deed Segment
deed step = deed_by (record { moves = transfer; resumes = resume }) step

-- what a deed does, or the first error: ESRCH where no such process lives, then EBUSY where it waits in a call, but of
-- one that is only to live
abbrev pub done_at : {X : Type 0} → Limits → State X ℕ → Deed X → Result (Outcome X ℕ) Errno
done_at c s (OfNobody does) = does c s
done_at c s (OfLiving pid does) = living s pid >>= does c s
done_at c s (OfReady pid does) = ready s pid >>= does c s

-- what a step does and is told, or the first error
abbrev pub call : Limits → State Segment ℕ → Step → Result (Outcome Segment ℕ) Errno
call c s step = done_at c s (deed step)

-- before the sweep
abbrev pub act : Limits → State Segment ℕ → Step → Outcome Segment ℕ
act c s step = settle s (call c s step)

-- what nobody can reach any more goes
abbrev pub swept : Outcome Segment ℕ → Outcome Segment ℕ
swept o = record { state = sweep itself o.state; reply = o.reply }

-- one step
abbrev pub step_of : Limits → State Segment ℕ → Step → Outcome Segment ℕ
step_of c s step = swept (act c s step)

-- Answers

-- an answer is the machine's, or memory was wanted and the state stays
abbrev pub Answers : Limits → Answer → State Segment ℕ → Step → State Segment ℕ → Type 0
Answers c (Done reply) old step new = record { state = new; reply = reply } ≡ step_of c old step
Answers c NoMemory old step new = new ≡ old

-- Want of memory

-- the process that does a deed
abbrev pub doer : {X : Type 0} → Deed X → Option ℕ
doer (OfNobody does) = None
doer (OfLiving pid does) = Some pid
doer (OfReady pid does) = Some pid

-- the process that makes a step; nobody makes a Spawn
abbrev pub pid_of : Step → Option ℕ
pid_of step = doer (deed step)

-- whether it is one of a process that may wait in a call
abbrev pub is_of_living : {X : Type 0} → Deed X → Bool
is_of_living (OfLiving pid does) = true
is_of_living _ = false

-- whether a process may make a step while it waits in a call
abbrev pub is_for_waiting : Step → Bool
is_for_waiting step = is_of_living (deed step)

module _ {X N : Type 0} where
  -- the call in which the process of a pid waits
  abbrev pub call_of : State X N → ℕ → Option (Call N)
  call_of s pid = option_and_then (λ p. p.parked) (process s pid)

  -- whether there is a process to make a step
  abbrev pub lives : State X N → Option ℕ → Bool
  lives s None = true
  lives s (Some pid) = is_some (process s pid)

  -- and whether it waits in a call
  abbrev pub waits : State X N → Option ℕ → Bool
  waits s None = false
  waits s (Some pid) = is_some (call_of s pid)

  -- a step is not refused with ESRCH, nor with EBUSY of a process that waits in a call
  abbrev pub is_let_in : State X N → Step → Bool
  is_let_in s step = lives s (pid_of step) && (is_for_waiting step || not (waits s (pid_of step)))

-- whether a call that is tried again hands out bytes
abbrev pub hands_out : {N : Type 0} → Option (Call N) → Bool
hands_out (Some (Moving (Reading fd n))) = true
hands_out _ = false

abbrev pub is_parked : Reply → Bool
is_parked Parked = true
is_parked _ = false

-- more bytes than a step and a reply hold without memory of the heap
abbrev pub are_many : List ℕ → Bool
are_many x = nat_lt BYTES_IN_PLACE (length x)

abbrev pub hands_many : Reply → Bool
hands_many (Bytes x) = are_many x
hands_many _ = false

abbrev pub is_refusal : Reply → Bool
is_refusal (Refused e) = true
is_refusal _ = false

-- whether a step that is told this may have made a process, changed or listed the files, opened a FIFO, made a pipe,
-- given one other slots, handed out many bytes, kept a copy of many bytes that wait, or walked a path by `.` or `..`
abbrev pub takes_memory : State Segment ℕ → Step → Reply → Bool
takes_memory s (steps.Spawn uid gid umask groups) reply = not (is_refusal reply)
takes_memory s (steps.Resume pid) reply = hands_out (call_of s pid) && hands_many reply
takes_memory s (steps.Fork pid) reply = not (is_refusal reply)
takes_memory s (steps.Mkdir pid path mode) reply = has_dots path || not (is_refusal reply)
takes_memory s (steps.Mkfifo pid path mode) reply = has_dots path || not (is_refusal reply)
takes_memory s (steps.Unlink pid path) reply = has_dots path || not (is_refusal reply)
takes_memory s (steps.Rmdir pid path) reply = has_dots path || not (is_refusal reply)
takes_memory s (steps.Chmod pid path mode) reply = has_dots path || not (is_refusal reply)
takes_memory s (steps.Stat pid path) reply = has_dots path
takes_memory s (steps.List pid path) reply = has_dots path || not (is_refusal reply)
takes_memory s (steps.Open pid path flags) reply = has_dots path || not (is_refusal reply)
takes_memory s (steps.Pipe pid nonblock) reply = not (is_refusal reply)
takes_memory s (steps.Read pid fd n) reply = hands_many reply
takes_memory s (steps.Write pid fd payload) reply = is_parked reply && are_many payload
takes_memory s (steps.SetSize pid fd bytes) reply = not (is_refusal reply)
takes_memory s _ reply = false

-- whether a step, in this state, may want memory
abbrev pub may_want_memory : Limits → State Segment ℕ → Step → Bool
may_want_memory c s step = takes_memory s step (act c s step).reply && is_let_in s step
