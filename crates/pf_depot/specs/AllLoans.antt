-- The loans of all namespaces, by their places.

use Rattle.std.specs.Prelude.{◌≡◌, ℕ, zero, suc, List, [], ◌∷◌, map, slice_index}
use Rattle.std.specs.List.{sum_by}
use Rattle.pf_frame.specs.Live.{Live, IsIdle, nobody}
use Rattle.pf_depot.specs.declared.loans.Loans.{Loans}
use Rattle.pf_depot.specs.Loans.{loans_live}

-- how many frames are on loan
abbrev pub held_of : Loans → ℕ
held_of l = (loans_live l).held

-- how many may be
abbrev pub reserved_of : Loans → ℕ
reserved_of l = (loans_live l).reserved

-- how many slots name them
abbrev pub shares_of : Loans → ℕ
shares_of l = (loans_live l).shares

-- the live frames of the namespace of a number
abbrev pub live_at : List Loans → ℕ → Live
live_at [] ns = nobody
live_at (l ∷ ls) zero = loans_live l
live_at (l ∷ ls) (suc ns) = live_at ls ns

-- loans for each of these reservations, none of which holds a frame
pub record AreIdle (loans : List Loans) (reserves : List ℕ) : Type 0 where
  pub reserved : map reserved_of loans ≡ reserves
  pub none : sum_by held_of loans ≡ 0
  pub idle : (ns : ℕ) → IsIdle (slice_index reserves ns) (live_at loans ns)
