-- What one step of a ring's call does to its windows and to the frames, from f to g: for the contracts of the crate's
-- own functions.

use Rattle.std.specs.Prelude.{◌≡◌, ℕ, ◌+◌, ◌<◌, ◌≤◌, List, [], length}
use Rattle.std.specs.VecDeque.{deque_len, deque_capacity}
use Rattle.std.specs.declared.collections.VecDeque.{VecDeque}
use Rattle.pf_machine.specs.Queue.{without_front}
use Rattle.pf_frame.specs.Live.{Live}
use Rattle.pf_frame.specs.declared.frames.Frames.{Ghosts}
use Rattle.pf_ring.specs.declared.ring.Window.{Window}
use Rattle.pf_ring.specs.Door.{Leaves}
use Rattle.pf_ring.specs.Ring.{shown}
use Rattle.pf_ring.specs.Windows.{bytes_in, Keeps, Moves, SameBytes, PutsBehind, Drops}

-- there is a place for each of so many windows, and there are no more of them
pub record HasPlaces {Z : Type 0} (ws : VecDeque Window Z) (slots : ℕ) : Type 0 where
  pub fits : deque_len ws ≤ slots
  pub space : slots ≤ deque_capacity ws

-- a step leaves the door as a call does and takes no memory, and this became of the windows and the frames
pub record Steps {D Z : Type 0} (F : Ghosts D) (d e : D) (old new : VecDeque Window Z)
    (Became : List Window → List Window → Live → Live → Type 0) : Type 0 where
  pub door : Leaves F d e (Became old.items new.items)
  pub space : deque_capacity new ≡ deque_capacity old

-- a part of at most so many bytes: at least one
pub record IsPart (number most : ℕ) : Type 0 where
  pub some : 0 < number
  pub fits : number ≤ most

-- n bytes are put at the end of the windows old; of the frames that were live, only behind the windows `behind`
-- (old itself, or none of them)
pub record Puts (n : ℕ) (behind old new : List Window) (f g : Live) : Type 0 where
  pub keeps : Keeps [] old new f g
  pub puts_behind : PutsBehind behind n f g
  pub more : (q : ℕ) → f.count q ≤ g.count q
  pub takes : g.held + length old ≡ f.held + length new
  pub bytes : bytes_in new ≡ bytes_in old + n

-- the first n bytes are gone
pub record Cut (n : ℕ) (old new : List Window) (f g : Live) : Type 0 where
  pub drops : Drops old new f g
  pub segments : shown g new ≡ without_front n (shown f old)
  pub bytes : bytes_in new + n ≡ bytes_in old

-- windows on the first n bytes of the windows src are put at the end of the windows old: no frame is taken, and no byte
-- changes
pub record Copies (n : ℕ) (src old new : List Window) (f g : Live) : Type 0 where
  pub keeps : Keeps src old new f g
  pub more : (q : ℕ) → f.count q ≤ g.count q
  pub live : (q : ℕ) → 0 < g.count q → 0 < f.count q
  pub same : (q : ℕ) → 0 < f.count q → g.bytes q ≡ f.bytes q
  pub held : g.held ≡ f.held
  pub bytes : bytes_in new ≡ bytes_in old + n

-- the first n bytes of the windows src came to the end of the windows old, and src' is what is left: first windows on
-- them were put there, and then they were dropped. No frame was taken or freed, and no byte changed
pub record Shifts (n : ℕ) (src src' old new : List Window) (f g : Live) : Type 0 where
  pub moves : Moves src src' old new f g
  pub left : shown g src' ≡ without_front n (shown f src)
  pub held : g.held ≡ f.held
  pub same : SameBytes f g
  pub bytes : bytes_in new ≡ bytes_in old + n
  pub rest : bytes_in src' + n ≡ bytes_in src
  pub fewer : length src' ≤ length src
