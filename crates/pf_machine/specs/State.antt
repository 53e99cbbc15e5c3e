-- The lone machine's state, over what a slot of a pipe holds (X) and what names a description and a pipe (N). The
-- machine itself has a segment in a slot, and its names are numbers. Code that keeps such a state has other things
-- there, and says by a map of the two what its own state means (Maps).

use Rattle.std.specs.Prelude.{ℕ, zero, suc, ◌-◌, Bool, not, List, [], Option, None, is_some, replicate, Result, Ok, Err}
use Rattle.std.specs.Option.{option_map, option_and_then}
use Rattle.pf_machine.specs.Refusals.{◌>>=◌, ◌>>◌, refuse_if, or_refuse}
use Rattle.pf_machine.specs.Queue.{Slots}
use Rattle.pf_machine.specs.FileMap.{Files, root_alone}
use Rattle.pf_machine.specs.Calls.{Call}
use Rattle.pf_machine.specs.Numbered.{at, put_at, clear_at, change_at}
use Rattle.pf_base.specs.declared.TheConstants.{MAX_PROCESSES}
use Rattle.pf_base.specs.declared.cred.Cred.{Cred}
use Rattle.pf_base.specs.declared.errno.Errno.{Errno}
use Rattle.pf_base.specs.declared.errno.Errno.TheVariants.{ESRCH, EBUSY, EBADF}
use Rattle.pf_base.specs.declared.step.Reply.{Reply}
use Rattle.pf_base.specs.declared.step.Reply.TheVariants as replies

-- What follows a name takes as its first argument which number a name stands for. Those of the machine stand for
-- themselves
abbrev pub itself : ℕ → ℕ
itself n = n

-- a process: its credentials, at each of its MAX_DESCRIPTORS descriptors the name of an open file description, and the
-- call in which it waits
pub record Process (N : Type 0) : Type 0 where
  pub cred : Cred
  pub descriptors : List (Option N)
  pub parked : Option (Call N)

-- an open file description (POSIX.1-2017, 3.258): the name of its pipe, whether it reads, writes, and has
-- O_NONBLOCK
pub record Description (N : Type 0) : Type 0 where
  pub pipe : N
  pub reads : Bool
  pub writes : Bool
  pub nonblocking : Bool

-- a pipe: what it holds, the user that its pages are charged to, the number of its FIFO, and how often that was opened
-- for reading and for writing. A pipe of pipe(2) has no FIFO, and is never opened
pub record Pipe (X : Type 0) : Type 0 where
  pub queue : Slots X
  pub owner : ℕ
  pub file : Option ℕ
  pub read_opens : ℕ
  pub write_opens : ℕ

-- processes: MAX_PROCESSES places, the pid 1 first. descriptions and pipes: a place for each number ever drawn. files: the
-- map of the files that are there, and how many were ever made besides the root
pub record State (X N : Type 0) : Type 0 where
  pub processes : List (Option (Process N))
  pub descriptions : List (Option (Description N))
  pub pipes : List (Option (Pipe X))
  pub files : Files
  pub files_made : ℕ

-- what a step leaves, and the reply to it
pub record Outcome (X N : Type 0) : Type 0 where
  pub state : State X N
  pub reply : Reply

-- so many places with nothing in them
unfoldable pub vacant : {X : Type 0} → ℕ → List (Option X)
vacant n = replicate n None

-- the opening state: nothing but the root directory, and numbers to draw
abbrev pub opening : {X N : Type 0} → State X N
opening = record { processes = vacant MAX_PROCESSES; descriptions = []; pipes = []; files = root_alone; files_made = 0 }

-- Outcomes

abbrev pub told : {X N : Type 0} → State X N → Reply → Outcome X N
told s r = record { state = s; reply = r }

abbrev pub done : {X N : Type 0} → State X N → ℕ → Outcome X N
done s n = told s (replies.Num n)

-- a refusal changes nothing
abbrev pub settle : {X N : Type 0} → State X N → Result (Outcome X N) Errno → Outcome X N
settle s (Ok o) = o
settle s (Err e) = record { state = s; reply = replies.Err e }

-- Looking up and changing one thing

-- a pipe that holds something else
abbrev pub holding : {X : Type 0} → Slots X → Pipe X → Pipe X
holding q p = record p { queue = q }

-- an end of a pipe, as a descriptor names it
pub record End (X N : Type 0) : Type 0 where
  pub description : Description N
  pub pipe : Pipe X

-- Who makes a step

module _ {N : Type 0} where
  -- a process by its pid: pids count from 1
  abbrev pub process_in : List (Option (Process N)) → ℕ → Option (Process N)
  process_in ps zero = None
  process_in ps (suc i) = at ps i

  -- who makes a step: a process that lives
  abbrev pub living_in : List (Option (Process N)) → ℕ → Result (Process N) Errno
  living_in ps pid = or_refuse ESRCH (process_in ps pid)

  -- and that waits in no call
  abbrev pub ready_in : List (Option (Process N)) → ℕ → Result (Process N) Errno
  ready_in ps pid = do
    p ← living_in ps pid
    refuse_if (is_some p.parked) EBUSY
    Ok p

module _ {X N : Type 0} where
  -- the same of a state's processes
  abbrev pub process : State X N → ℕ → Option (Process N)
  process s pid = process_in s.processes pid

  abbrev pub living : State X N → ℕ → Result (Process N) Errno
  living s pid = living_in s.processes pid

  abbrev pub ready : State X N → ℕ → Result (Process N) Errno
  ready s pid = ready_in s.processes pid

  -- a call of a process that lives
  abbrev pub of_living : {A : Type 0} → State X N → ℕ → (Process N → Result A Errno) → Result A Errno
  of_living s pid call = living s pid >>= call

  -- and of one that waits in no call
  abbrev pub of_ready : {A : Type 0} → State X N → ℕ → (Process N → Result A Errno) → Result A Errno
  of_ready s pid call = ready s pid >>= call

  -- What a process names

  -- the end that the description of a number is
  abbrev pub end_at : (N → ℕ) → State X N → ℕ → Option (End X N)
  end_at number s n =
      option_and_then
      (λ d. option_map (λ (pipe : Pipe X). record { description = d; pipe = pipe }) (at s.pipes (number d.pipe)))
      (at s.descriptions n)

  -- the end that a process's descriptor names
  abbrev pub end_of : (N → ℕ) → State X N → Process N → ℕ → Result (End X N) Errno
  end_of number s p fd = or_refuse EBADF (option_and_then (λ n. end_at number s (number n)) (at p.descriptors fd))

  -- the same, of an end that reads
  abbrev pub reading_end : (N → ℕ) → State X N → Process N → ℕ → Result (End X N) Errno
  reading_end number s p fd = do
    e ← end_of number s p fd
    refuse_if (not e.description.reads) EBADF
    Ok e

  -- or of one that writes
  abbrev pub writing_end : (N → ℕ) → State X N → Process N → ℕ → Result (End X N) Errno
  writing_end number s p fd = do
    e ← end_of number s p fd
    refuse_if (not e.description.writes) EBADF
    Ok e

  -- Changes of one thing

  -- with this process under a pid
  abbrev pub with_process : State X N → ℕ → Process N → State X N
  with_process s pid p = record s { processes = put_at s.processes (pid - 1) p }

  -- with a change of the process of a pid
  abbrev pub change_process : (Process N → Process N) → State X N → ℕ → State X N
  change_process f s pid = record s { processes = change_at f s.processes (pid - 1) }

  -- without the process of a pid
  abbrev pub without_process : State X N → ℕ → State X N
  without_process s pid = record s { processes = clear_at s.processes (pid - 1) }

  -- with a change of the pipe of a number
  abbrev pub change_pipe : (Pipe X → Pipe X) → State X N → ℕ → State X N
  change_pipe f s n = record s { pipes = change_at f s.pipes n }

  -- with something else in the pipe of a number
  abbrev pub with_queue : State X N → ℕ → Slots X → State X N
  with_queue s n q = change_pipe (holding q) s n

-- a process with the description of this name at a descriptor
abbrev pub with_descriptor : {N : Type 0} → ℕ → N → Process N → Process N
with_descriptor fd n p = record p { descriptors = put_at p.descriptors fd n }

-- a process that waits in a call, or in none
abbrev pub waiting : {N : Type 0} → Option (Call N) → Process N → Process N
waiting call p = record p { parked = call }
