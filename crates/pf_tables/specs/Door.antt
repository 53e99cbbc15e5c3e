-- What a call of a namespace is handed at a door, and how it leaves the door.

use Rattle.std.specs.Prelude.{◌≡◌}
use Rattle.pf_frame.specs.declared.frames.Frames.{Ghosts}
use Rattle.pf_tables.specs.Meaning.{Namespace}
use Rattle.pf_tables.specs.Owns.{Owns}

-- the live frames of a door are a namespace's own, and its fact is there
pub record Serves {D : Type 0} (F : Ghosts D) (d : D) (n : Namespace) : Type 0 where
  pub fact : F.fact d
  pub owns : Owns (F.live d) n

-- a call that was handed the door d leaves it as e: its fact is there, and what no call of it changes is as it was
pub record HandsOn {D : Type 0} (F : Ghosts D) (d e : D) : Type 0 where
  pub fact : F.fact e
  pub rest : F.rest e ≡ F.rest d
