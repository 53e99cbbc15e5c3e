-- What a pipe means, and what a transfer through it leaves.

use Rattle.std.specs.Prelude.{◌≡◌, ℕ, ◌+◌, ◌<◌, ◌≤◌, [], length, Option, Result, Ok, Err}
use Rattle.pf_machine.specs.Progress.{Passed, Crossed, source_after, cross_now}
use Rattle.pf_machine.specs.Queue.{tee_number, after_tee}
use Rattle.pf_base.specs.declared.errno.Errno.TheVariants.{EBUSY}
use Rattle.pf_base.specs.declared.fault.Fault.{Fault}
use Rattle.pf_base.specs.declared.fault.Fault.TheVariants as faults
use Rattle.pf_base.specs.declared.progress.Crossing.{Crossing}
use Rattle.pf_base.specs.declared.progress.Progress.{Progress}
use Rattle.pf_base.specs.declared.progress.Progress.TheVariants.{Moved}
use Rattle.pf_base.specs.declared.progress.Side.{Side}
use Rattle.pf_base.specs.declared.progress.Side.TheVariants.{Read, Write}
use Rattle.pf_frame.specs.Live.{Live, IsSound}
use Rattle.pf_ring.specs.Ring.{Ring, queue_of}
use Rattle.pf_ring.specs.Windows.{Stands, Keeps, Moves}

-- the number of a pipe's FIFO, and how often it was opened for reading and for writing; a pipe of pipe(2) has no FIFO
pub record Opens : Type 0 where
  pub file : Option ℕ
  pub read : ℕ
  pub write : ℕ

-- nothing opened it yet
abbrev pub unopened : Option ℕ → Opens
unopened file = record { file = file; read = 0; write = 0 }

-- a ring with the user that its pages are charged to, how many ends read and write it, and its opens
pub record CountedPipe : Type 0 where
  pub ring : Ring
  pub owner : ℕ
  pub readers : ℕ
  pub writers : ℕ
  pub opens : Opens

-- how many ends of a side there are
abbrev pub ends : Side → CountedPipe → ℕ
ends Read p = p.readers
ends Write p = p.writers

-- with another number of them
abbrev pub with_ends : Side → ℕ → CountedPipe → CountedPipe
with_ends Read n p = record p { readers = n }
with_ends Write n p = record p { writers = n }

-- how often it was opened for a side
abbrev pub opens_for : Side → CountedPipe → ℕ
opens_for Read p = p.opens.read
opens_for Write p = p.opens.write

-- opened once more for a side
abbrev pub opened_for : Side → CountedPipe → CountedPipe
opened_for Read p = record p { opens = record p.opens { read = p.opens.read + 1 } }
opened_for Write p = record p { opens = record p.opens { write = p.opens.write + 1 } }

-- a transfer came as far as the machine says, and left the queue that it says. No more than the ring has changed, and
-- all other rings in the frames show what they showed
pub record Passes (old new : CountedPipe) (f g : Live) (progress : Progress) (machine : Passed) : Type 0 where
  pub told : machine ≡ record { progress = progress; queue = queue_of g new.ring }
  pub owner : new.owner ≡ old.owner
  pub readers : new.readers ≡ old.readers
  pub writers : new.writers ≡ old.writers
  pub opens : new.opens ≡ old.opens
  pub capacity : new.ring.capacity ≡ old.ring.capacity
  pub fits : length old.ring.segments ≤ old.ring.capacity → length new.ring.segments ≤ new.ring.capacity
  pub keeps : Keeps [] old.ring.segments new.ring.segments f g

-- all of a pipe is as it was but its windows, which are no more than its slots
pub record SameButWindows (old new : CountedPipe) : Type 0 where
  pub owner : new.owner ≡ old.owner
  pub readers : new.readers ≡ old.readers
  pub writers : new.writers ≡ old.writers
  pub opens : new.opens ≡ old.opens
  pub capacity : new.ring.capacity ≡ old.ring.capacity
  pub fits : length old.ring.segments ≤ old.ring.capacity → length new.ring.segments ≤ new.ring.capacity

-- a transfer from a pipe to another came as far as the machine says, and left the queues that it says. No more than the
-- two rings have changed, and all other rings in the frames show what they showed
pub record Crosses (source source' sink sink' : CountedPipe) (f g : Live) (progress : Progress) (machine : Crossed) : Type 0 where
  pub told : machine ≡ record { progress = progress; source = queue_of g source'.ring; sink = queue_of g sink'.ring }
  pub source_is : SameButWindows source source'
  pub sink_is : SameButWindows sink sink'
  pub moves : Moves source.ring.segments source'.ring.segments sink.ring.segments sink'.ring.segments f g

-- in whatever frames the two pipes stand, no byte goes from one to the other, and this is why
abbrev pub Stops : CountedPipe → CountedPipe → ℕ → Progress → Type 0
Stops source sink n progress =
    (f : Live) (c : Crossing) → IsSound f → Stands f source.ring.segments
    → cross_now c (queue_of f source.ring) (queue_of f sink.ring) source.writers sink.readers n
    ≡ record { progress = progress; source = queue_of f source.ring; sink = queue_of f sink.ring }

-- some bytes go
pub record GoesIn (f : Live) (c : Crossing) (source sink : CountedPipe) (n : ℕ) : Type 0 where
  pub some : 0 < tee_number (queue_of f source.ring) (queue_of f sink.ring) n
  pub machine : cross_now c (queue_of f source.ring) (queue_of f sink.ring) source.writers sink.readers n
      ≡ record {
        progress = Moved (tee_number (queue_of f source.ring) (queue_of f sink.ring) n);
        source = source_after c (queue_of f source.ring) (queue_of f sink.ring) n;
        sink = after_tee (queue_of f source.ring) (queue_of f sink.ring) n;
      }

abbrev pub Goes : CountedPipe → CountedPipe → ℕ → Type 0
Goes source sink n =
    (f : Live) (c : Crossing) → IsSound f → Stands f source.ring.segments → GoesIn f c source sink n

-- a pipe has another number of slots, with all that it holds; or it has more in use, or memory was wanted, and it is as it
-- was
abbrev pub Resizes : CountedPipe → CountedPipe → ℕ → Result (Unit {0}) Fault → Type 0
Resizes old new slots (Ok done) = (length old.ring.segments ≤ slots)
    × (new ≡ record old { ring = record { capacity = slots; segments = old.ring.segments } })
Resizes old new slots (Err (faults.Errno e)) = (slots < length old.ring.segments) × (e ≡ EBUSY) × (new ≡ old)
Resizes old new slots (Err faults.NoMemory) = (length old.ring.segments ≤ slots) × (new ≡ old)
