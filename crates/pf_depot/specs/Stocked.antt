-- What no call over a shared depot with a stock changes.

use Rattle.std.specs.Prelude.{ℕ}

-- which two shares and which stock it has, and how many parts of their ledgers the shares are
pub record StockedRest : Type 0 where
  pub credits_name : ℕ
  pub held_name : ℕ
  pub stock_name : ℕ
  pub credits_parts : ℕ
  pub held_parts : ℕ
