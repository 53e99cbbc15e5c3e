-- What no call over a shared depot changes.

use Rattle.std.specs.Prelude.{ℕ}

-- which two shares it has, and how many parts of their ledgers they are
pub record SharedRest : Type 0 where
  pub credits_name : ℕ
  pub held_name : ℕ
  pub credits_parts : ℕ
  pub held_parts : ℕ
