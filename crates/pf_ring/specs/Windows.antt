-- How windows lie in the frames that they name, and what a change of one ring's windows is to all others.

use Rattle.std.specs.Prelude.{◌≡◌, ℕ, ◌+◌, ◌<◌, ◌≤◌, ◌==◌, ◌&&◌, min, max, Bool, false, List, [], ◌∷◌, length, take, drop, if◌then◌else◌}
use Rattle.pf_base.specs.declared.TheConstants.{PAGE_SIZE}
use Rattle.pf_frame.specs.Live.{Live}
use Rattle.pf_ring.specs.declared.ring.Window.{Window}

-- how many windows name the frame q
abbrev pub named : ℕ → List Window → ℕ
named q [] = 0
named q (w ∷ ws) = if w.frame == q then 1 + named q ws else named q ws

-- where the window on q ends that ends farthest, 0 if there is none
abbrev pub reach : ℕ → List Window → ℕ
reach q [] = 0
reach q (w ∷ ws) = if w.frame == q then max (w.from + w.len) (reach q ws) else reach q ws

-- how many windows on q grow
abbrev pub opens : ℕ → List Window → ℕ
opens q [] = 0
opens q (w ∷ ws) = if w.grows && (w.frame == q) then 1 + opens q ws else opens q ws

-- where a window on q that grows ends: q is filled up to there. A page if none grows
abbrev pub limit : ℕ → List Window → ℕ
limit q [] = PAGE_SIZE
limit q (w ∷ ws) = if w.grows && (w.frame == q) then min (w.from + w.len) (limit q ws) else limit q ws

-- each window shows a byte at least
abbrev pub NoEmpty : List Window → Type 0
NoEmpty [] = Unit {0}
NoEmpty (w ∷ ws) = (0 < w.len) × NoEmpty ws

-- how many bytes the windows show together
abbrev pub bytes_in : List Window → ℕ
bytes_in [] = 0
bytes_in (w ∷ ws) = w.len + bytes_in ws

-- the frames that the windows name are live; at most one window on a frame grows, and none ends behind it or
-- behind the page; none is empty
pub record Stands (f : Live) (ws : List Window) : Type 0 where
  pub counted : (q : ℕ) → named q ws ≤ f.count q
  pub within : (q : ℕ) → reach q ws ≤ PAGE_SIZE
  pub single : (q : ℕ) → opens q ws ≤ 1
  pub apart : (q : ℕ) → reach q ws ≤ limit q ws
  pub some : NoEmpty ws

-- what a change of a ring's windows from old to new, and of the frames from f to g, is to the others that name the
-- frames: each count goes with the windows, and no byte changes that stood before the end of a window that grows.
-- src: the windows of another ring that were copied, if any
pub record Keeps (src old new : List Window) (f g : Live) : Type 0 where
  pub reservation : g.reserved ≡ f.reserved
  pub counts : (q : ℕ) → g.count q + named q old ≡ f.count q + named q new
  pub total : g.shares + length old ≡ f.shares + length new
  pub contents : (q : ℕ) → 0 < f.count q → 0 < g.count q → take (limit q old) (g.bytes q) ≡ take (limit q old) (f.bytes q)
  pub opened : (q : ℕ) → 0 < f.count q → opens q new ≤ opens q old
  pub reached : (q : ℕ) → 0 < f.count q → opens q old ≡ 0 → reach q new ≤ max (reach q old) (reach q src)
  pub limits : (q : ℕ) → 0 < f.count q → limit q old ≤ limit q new
  pub within : (q : ℕ) → reach q new ≤ PAGE_SIZE
  pub single : (q : ℕ) → opens q new ≤ 1
  pub apart : (q : ℕ) → reach q new ≤ limit q new
  pub some : NoEmpty new

-- no byte of a frame that stays live changes: what every call but append leaves, in whatever frame, also where no
-- window shows it
abbrev pub SameBytes : Live → Live → Type 0
SameBytes f g = (q : ℕ) → 0 < g.count q → g.bytes q ≡ f.bytes q

-- whether the last window is on the frame q and grows
abbrev pub last_grows : ℕ → List Window → Bool
last_grows q [] = false
last_grows q (w ∷ []) = w.grows && (w.frame == q)
last_grows q (w ∷ v ∷ ws) = last_grows q (v ∷ ws)

-- n bytes are put behind these windows: of a frame that was live no byte changes but those n behind the end of the
-- last window, where it grows (the bytes before its end are in Keeps)
pub record PutsBehind (ws : List Window) (n : ℕ) (f g : Live) : Type 0 where
  pub others : (q : ℕ) → 0 < f.count q → last_grows q ws ≡ false → g.bytes q ≡ f.bytes q
  pub behind : (q : ℕ) → 0 < f.count q → drop (limit q ws + n) (g.bytes q) ≡ drop (limit q ws + n) (f.bytes q)

-- a change that only drops windows, cuts them at the front, and releases frames: no byte of a live frame changes
pub record Drops (old new : List Window) (f g : Live) : Type 0 where
  pub reservation : g.reserved ≡ f.reserved
  pub counts : (q : ℕ) → g.count q + named q old ≡ f.count q + named q new
  pub total : g.shares + length old ≡ f.shares + length new
  pub contents : SameBytes f g
  pub held : g.held ≤ f.held
  pub used : length new ≤ length old
  pub fewer : (q : ℕ) → named q new ≤ named q old
  pub opened : (q : ℕ) → opens q new ≤ opens q old
  pub reached : (q : ℕ) → reach q new ≤ reach q old
  pub limits : (q : ℕ) → limit q old ≤ limit q new
  pub some : NoEmpty new

-- bytes come from the windows src to the end of the windows old. First windows on them are put there; then src' is what
-- is left of src, all of it for a tee
pub record Moves (src src' old new : List Window) (f g : Live) : Type 0 where
  pub between : Live
  pub copied : Keeps src old new f between
  pub dropped : Keeps [] src src' between g
