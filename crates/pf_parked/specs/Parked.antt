-- What is parked by pid.

use Rattle.std.specs.Prelude.{ℕ, zero, suc, List, Option, None}
use Rattle.pf_machine.specs.Numbered.{at, clear_at}

module _ {X : Type 0} where
  -- what is parked under a pid: pids count from 1
  abbrev pub call_at : List (Option X) → ℕ → Option X
  call_at xs zero = None
  call_at xs (suc i) = at xs i

  -- with nothing under a pid
  abbrev pub without_call : List (Option X) → ℕ → List (Option X)
  without_call xs zero = xs
  without_call xs (suc i) = clear_at xs i
