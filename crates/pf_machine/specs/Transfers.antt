-- Transfers, tried: Read (read(2)), Write (write(2)), Tee (tee(2)) and Splice (splice(2)), before anybody waits or is
-- told.

use Rattle.std.specs.Prelude.{ℕ, List, length, take, drop, nat_eq, nat_lt, nat_le, Option, Some, None, Result, Ok}
use Rattle.pf_machine.specs.Refusals.{◌>>=◌, ◌>>◌, refuse_if}
use Rattle.pf_machine.specs.Queue.{Segment, taken}
use Rattle.pf_machine.specs.Progress.{moved, read_now, write_now, cross_now}
use Rattle.pf_machine.specs.Calls.{Transfer, Reading, Writing, Bringing}
use Rattle.pf_machine.specs.State.{itself, State, Process, End, reading_end, writing_end, with_queue}
use Rattle.pf_machine.specs.Counts.{readers, writers}
use Rattle.pf_base.specs.declared.TheConstants.{PIPE_BUF, MAX_WRITE}
use Rattle.pf_base.specs.declared.errno.Errno.{Errno}
use Rattle.pf_base.specs.declared.errno.Errno.TheVariants.{EINVAL}
use Rattle.pf_base.specs.declared.progress.Crossing.{Crossing}
use Rattle.pf_base.specs.declared.progress.Crossing.TheVariants.{Tee, Splice}
use Rattle.pf_base.specs.declared.progress.Progress.{Progress}

-- what trying a transfer leaves, how far it came, and the bytes that it moved, out of a pipe and into one
pub record Tried : Type 0 where
  pub state : State Segment ℕ
  pub progress : Progress
  pub bytes : List ℕ
  pub from : Option ℕ
  pub into : Option ℕ

-- Read

abbrev pub try_read : State Segment ℕ → End Segment ℕ → ℕ → Tried
try_read s e n =
    let r = read_now e.pipe.queue (writers itself s e.description.pipe) n in
    record {
      state = with_queue s e.description.pipe r.queue;
      progress = r.progress;
      bytes = taken e.pipe.queue (moved r.progress);
      from = Some e.description.pipe;
      into = None;
    }

-- Write

-- what is left of a write, where so many of its bytes went in before. A write of at most PIPE_BUF bytes is whole
abbrev pub try_write : State Segment ℕ → End Segment ℕ → List ℕ → ℕ → Tried
try_write s e x written =
    let reading = readers itself s e.description.pipe in
    let r = write_now e.pipe.queue reading (nat_le (length x) PIPE_BUF) (drop written x) in
    record {
      state = with_queue s e.description.pipe r.queue;
      progress = r.progress;
      bytes = take (moved r.progress) (drop written x);
      from = None;
      into = Some e.description.pipe;
    }

-- Tee and Splice

-- the end that a transfer between two pipes takes bytes from, and the end that it brings them to
pub record Ends : Type 0 where
  pub source : End Segment ℕ
  pub sink : End Segment ℕ

-- no two ends of one pipe, whichever descriptors and descriptions name it
abbrev pub two_ends : State Segment ℕ → Process ℕ → ℕ → ℕ → Result Ends Errno
two_ends s p source sink = do
  i ← reading_end itself s p source
  o ← writing_end itself s p sink
  refuse_if (nat_eq i.description.pipe o.description.pipe) EINVAL
  Ok (record { source = i; sink = o })

-- a tee takes nothing out of its source
abbrev pub taken_from : Crossing → End Segment ℕ → Option ℕ
taken_from Tee e = None
taken_from Splice e = Some e.description.pipe

-- n bytes come from one to the other
abbrev pub try_cross : Crossing → State Segment ℕ → Ends → ℕ → Tried
try_cross c s e n =
    let i = e.source in
    let o = e.sink in
    let writing = writers itself s i.description.pipe in
    let reading = readers itself s o.description.pipe in
    let r = cross_now c i.pipe.queue o.pipe.queue writing reading n in
    record {
      state = with_queue (with_queue s o.description.pipe r.sink) i.description.pipe r.source;
      progress = r.progress;
      bytes = taken i.pipe.queue (moved r.progress);
      from = taken_from c i;
      into = Some o.description.pipe;
    }

-- All four, with their refusals

abbrev pub tried : State Segment ℕ → Process ℕ → Transfer → Result Tried Errno
tried s p (Reading fd n) = do
  e ← reading_end itself s p fd
  Ok (try_read s e n)
tried s p (Writing fd x written) = do
  e ← writing_end itself s p fd
  refuse_if (nat_lt MAX_WRITE (length x)) EINVAL
  Ok (try_write s e x written)
tried s p (Bringing c source sink n) = do
  e ← two_ends s p source sink
  Ok (try_cross c s e n)
