-- What a call of a ring leaves in the ring and in the frames, which go from f to g.

use Rattle.std.specs.Prelude.{◌≡◌, ℕ, ◌+◌, ◌≤◌, List, [], length}
use Rattle.pf_machine.specs.Queue.{Queue, taken, after_take, tee_number, after_tee}
use Rattle.pf_frame.specs.Live.{Live}
use Rattle.pf_ring.specs.declared.ring.Window.{Window}
use Rattle.pf_ring.specs.Ring.{Ring, queue_of}
use Rattle.pf_ring.specs.Windows.{Keeps, Moves, SameBytes, PutsBehind}

-- Frames: what becomes of them, and of what other rings show, where a call does this

-- n bytes are put at the end of the windows old: as many frames are taken as slots, other rings show what they showed,
-- and a frame that was live is written to behind the last slot's end alone
pub record Appends (old new : List Window) (n : ℕ) (f g : Live) : Type 0 where
  pub takes : g.held + length old ≡ f.held + length new
  pub keeps : Keeps [] old new f g
  pub puts_behind : PutsBehind old n f g

-- windows are cut at the front or go: other rings show what they showed, and nothing is written
pub record Empties (old new : List Window) (f g : Live) : Type 0 where
  pub keeps : Keeps [] old new f g
  pub bytes_stay : SameBytes f g

-- no frame is taken or freed, and nothing is written
pub record SameFrames (f g : Live) : Type 0 where
  pub takes : g.held ≡ f.held
  pub bytes_stay : SameBytes f g

-- windows on the frames of src are put at the end of the windows old: other rings show what they showed
pub record Tees (src old new : List Window) (f g : Live) : Type 0 where
  pub keeps : Keeps src old new f g
  pub same : SameFrames f g

-- and the first windows of src are cut or go: src' is what is left
pub record Splices (src src' old new : List Window) (f g : Live) : Type 0 where
  pub moves : Moves src src' old new f g
  pub same : SameFrames f g

-- Rings

-- a ring has the slots that it had, no more windows than slots, and shows this queue
pub record Shows (g : Live) (old new : Ring) (q : Queue) : Type 0 where
  pub capacity : new.capacity ≡ old.capacity
  pub fits : length new.segments ≤ new.capacity
  pub queue : queue_of g new ≡ q

-- a ring gave its first bytes, at most so many: this is their number, and it shows the others
pub record Gives (f g : Live) (old new : Ring) (most number : ℕ) : Type 0 where
  pub number_is : number ≡ length (taken (queue_of f old) most)
  pub left : Shows g old new (after_take (queue_of f old) most)

-- a ring got the first bytes of another, at most n: this is their number, and it shows them behind its own
pub record Gets (f g : Live) (source old new : Ring) (n number : ℕ) : Type 0 where
  pub number_is : number ≡ tee_number (queue_of f source) (queue_of f old) n
  pub put : Shows g old new (after_tee (queue_of f source) (queue_of f old) n)
