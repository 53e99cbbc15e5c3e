-- What a call that changes windows of rings is handed at a door, and how it leaves the door.

use Rattle.std.specs.Prelude.{◌≡◌, ℕ, ◌+◌, ◌-◌, ◌<◌, ◌≤◌, ◌^◌, List, ◌++◌, length}
use Rattle.pf_frame.specs.Live.{Live}
use Rattle.pf_frame.specs.declared.frames.Frames.{Ghosts}
use Rattle.pf_ring.specs.declared.ring.Window.{Window}
use Rattle.pf_ring.specs.Windows.{Stands}

-- these windows stand in the frames of a door, and its fact is there
pub record Holds {D : Type 0} (F : Ghosts D) (d : D) (ws : List Window) : Type 0 where
  pub fact : F.fact d
  pub stands : Stands (F.live d) ws

-- and of so many slots it has a credit for each that is free: nothing can fail
pub record Affords {D : Type 0} (F : Ghosts D) (d : D) (slots : ℕ) (ws : List Window) : Type 0 where
  pub fact : F.fact d
  pub stands : Stands (F.live d) ws
  pub credits : (F.live d).held + (slots - length ws) ≤ (F.live d).reserved

-- the windows of two rings stand there, which are two in the same frames; and as the second has so many slots, no count
-- can pass the end of its type
pub record HoldsBoth {D : Type 0} (F : Ghosts D) (d : D) (ws vs : List Window) (slots : ℕ) : Type 0 where
  pub fact : F.fact d
  pub stands : Stands (F.live d) (ws ++ vs)
  pub few : (F.live d).shares + slots < 2 ^ 32

-- a call that was handed the door d leaves it as e: its fact is there, what no call of it changes is as it was, and
-- this became of the frames
pub record Leaves {D : Type 0} (F : Ghosts D) (d e : D) (Became : Live → Live → Type 0) : Type 0 where
  pub fact : F.fact e
  pub rest : F.rest e ≡ F.rest d
  pub frames : Became (F.live d) (F.live e)
