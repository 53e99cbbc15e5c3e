-- What no call over a shared depot changes of which a gate is told, and what is known of the gate.

use Rattle.std.specs.Prelude.{ℕ, ◌<◌}

-- which gate is told, of which namespace; how many frames it held at first; which two shares and which stock it has, and
-- how many parts of their ledgers the shares are
pub record GatedRest (G : Type 0) : Type 0 where
  pub gate : G
  pub ns : ℕ
  pub begun : ℕ
  pub credits_name : ℕ
  pub held_name : ℕ
  pub stock_name : ℕ
  pub credits_parts : ℕ
  pub held_parts : ℕ

-- where more frames are held than at first, the gate was told
abbrev pub IsToldOfMore : Type 0 → ℕ → ℕ → Type 0
IsToldOfMore Framed begun held = begun < held → Framed
