-- Opens of FIFOs (open(2), fifo(7)).

use Rattle.std.specs.Prelude.{ℕ, ◌+◌, suc, Bool, false, not, ◌||◌, ◌&&◌, List, [], ◌∷◌, ◌++◌, length, Option, Some, None, nat_eq, nat_le, if◌then◌else◌, Result, Ok}
use Rattle.std.specs.Int.{bit_at}
use Rattle.std.specs.Option.{option_map}
use Rattle.pf_machine.specs.Refusals.{◌>>=◌, ◌>>◌, refuse_if}
use Rattle.pf_base.specs.Limits.{Limits}
use Rattle.pf_base.specs.Permissions.{allows}
use Rattle.pf_machine.specs.FileMap.{Files, is_directory}
use Rattle.pf_machine.specs.Paths.{target}
use Rattle.pf_machine.specs.Queue.{empty}
use Rattle.pf_base.specs.Capacities.{told_as}
use Rattle.pf_machine.specs.Numbered.{at, first_free}
use Rattle.pf_machine.specs.Calls.{Opening}
use Rattle.pf_machine.specs.State.{State, Process, Description, Pipe, Outcome, change_pipe}
use Rattle.pf_machine.specs.Counts.{readers, writers}
use Rattle.pf_machine.specs.Pipes.{capacity_for, is_spent, new_pipe}
use Rattle.pf_machine.specs.Attempts.{Attempt, Waits, given, first}
use Rattle.pf_base.specs.declared.TheConstants.{MAX_DESCRIPTORS}
use Rattle.pf_base.specs.declared.cred.Cred.{Cred}
use Rattle.pf_base.specs.declared.errno.Errno.{Errno}
use Rattle.pf_base.specs.declared.errno.Errno.TheVariants.{ENXIO, ENOMEM, EACCES, EISDIR, EINVAL, ENFILE, EMFILE}
use Rattle.pf_base.specs.declared.meta.File.{File}
use Rattle.pf_base.specs.declared.permissions.Want.TheVariants.{Read, Write}

-- How a FIFO is opened

-- for which sides, and whether with O_NONBLOCK
pub record Access : Type 0 where
  pub reads : Bool
  pub writes : Bool
  pub nonblock : Bool

abbrev pub has_flag : ℕ → ℕ → Bool
has_flag flags i = nat_eq (bit_at flags i) 1

-- the flags' bits: 1 is READ, 2 is WRITE, 4 is NONBLOCK, and others mean nothing
abbrev pub access_of : ℕ → Access
access_of flags = record { reads = has_flag flags 0; writes = has_flag flags 1; nonblock = has_flag flags 2 }

-- Whether an open waits, where so many descriptions read the pipe and so many write it (fifo(7)):
--     for one side alone    waits while the other side is not open; with O_NONBLOCK it doesn't
--     for both sides        never waits
-- An open for writing with O_NONBLOCK, where nobody reads, was refused before.
abbrev pub is_waiting : Access → ℕ → ℕ → Bool
is_waiting a readers writers =
    not a.nonblock && not (a.reads && a.writes) && (if a.reads then nat_eq writers 0 else nat_eq readers 0)

-- The FIFO

-- what may be opened: a FIFO that its mode allows to open so. A directory is EISDIR for every access (this profile's
-- choice)
abbrev pub openable : Files → Cred → List ℕ → Access → Result File Errno
openable files c path a = do
  refuse_if (not a.reads && not a.writes) EINVAL
  t ← target files c path
  refuse_if (is_directory t.file) EISDIR
  refuse_if (a.reads && not (allows c t.file.meta Read) || a.writes && not (allows c t.file.meta Write)) EACCES
  Ok t.file

-- the least number at which something stands that passes the test
abbrev pub first_where : {X : Type 0} → (X → Bool) → List (Option X) → Option ℕ
first_where test [] = None
first_where test (None ∷ xs) = option_map (λ n. suc n) (first_where test xs)
first_where test (Some x ∷ xs) = if test x then Some 0 else option_map (λ n. suc n) (first_where test xs)

-- whether a pipe is that of a FIFO's number
abbrev pub is_of_file : ℕ → Option ℕ → Bool
is_of_file file None = false
is_of_file file (Some n) = nat_eq n file

-- the pipe of a FIFO, which it has while somebody has it open
abbrev pub fifo_pipe : {X N : Type 0} → State X N → ℕ → Option ℕ
fifo_pipe s file = first_where (λ p. is_of_file file p.file) s.pipes

abbrev pub fifo_readers : {X N : Type 0} → (N → ℕ) → State X N → Option ℕ → ℕ
fifo_readers number s None = 0
fifo_readers number s (Some n) = readers number s n

-- that pipe, in the state that has it
pub record Found (X N : Type 0) : Type 0 where
  pub state : State X N
  pub pipe : ℕ

-- a FIFO that nobody has open gets a pipe, which its opener is charged with
abbrev pub pipe_of : {X N : Type 0} → Limits → State X N → Process N → ℕ → Option ℕ → Result (Found X N) Errno
pipe_of c s p file (Some n) = Ok (record { state = s; pipe = n })
pipe_of c s p file None = do
  refuse_if (is_spent s.pipes 1) ENFILE
  slots ← told_as ENOMEM (capacity_for c s p.cred)
  Ok (record {
    state = record s { pipes = s.pipes ++ Some (new_pipe (empty slots) p.cred.uid (Some file)) ∷ [] };
    pipe = length s.pipes;
  })

-- The open

-- the counter of each side that is opened goes up
abbrev pub counted : {X : Type 0} → Access → Pipe X → Pipe X
counted a p = record p {
  read_opens = if a.reads then p.read_opens + 1 else p.read_opens;
  write_opens = if a.writes then p.write_opens + 1 else p.write_opens;
}

-- how often the other side was opened
abbrev pub kept_by : {X : Type 0} → Access → Option (Pipe X) → ℕ
kept_by a None = 0
kept_by a (Some p) = if a.reads then p.write_opens else p.read_opens

module _ {X N : Type 0} (number : N → ℕ) (name : N) where
  -- one more description of the pipe of a number and a name. Its own name is drawn at once: a descriptor has it, or the
  -- open that waits
  abbrev pub open_pipe : N → State X N → ℕ → Process N → Access → ℕ → Attempt X N
  open_pipe of s pid p a n =
      let d : Description N = record { pipe = of; reads = a.reads; writes = a.writes; nonblocking = a.nonblock } in
      let made = change_pipe (counted a) (record s { descriptions = s.descriptions ++ Some d ∷ [] }) n in
      if is_waiting a (readers number s n) (writers number s n)
      then Waits made (Opening name (kept_by a (at s.pipes n)))
      else given made pid p name

  -- which pipe a FIFO has is found here, so the pipe's name is given for every number
  abbrev pub open_fifo :
      (ℕ → N) → Limits → State X N → ℕ → Process N → Access → ℕ → Result (Outcome X N) Errno
  open_fifo of c s pid p a file = do
    refuse_if (nat_le MAX_DESCRIPTORS (first_free p.descriptors)) EMFILE
    refuse_if (a.writes && not a.reads && a.nonblock && nat_eq (fifo_readers number s (fifo_pipe s file)) 0) ENXIO
    refuse_if (is_spent s.descriptions 1) ENFILE
    found ← pipe_of c s p file (fifo_pipe s file)
    first pid false (open_pipe (of found.pipe) found.state pid p a found.pipe)

  abbrev pub open_path :
      (ℕ → N) → Limits → State X N → ℕ → Process N → List ℕ → Access → Result (Outcome X N) Errno
  open_path of c s pid p path a = do
    f ← openable s.files p.cred path a
    open_fifo of c s pid p a f.number
