-- How the values that are written, and the numbers that are marked, go with the places. No public clause cites this module.

use Rattle.std.specs.Prelude.{◌≡◌, ℕ, ◌-◌, ◌<◌, ◌≤◌, List, ◌++◌, length, replicate, Option, None, is_some}
use Rattle.pf_machine.specs.Numbered.{at}
use Rattle.pf_fds.specs.declared.marks.Marks.{Marks}
use Rattle.pf_fds.specs.Marks.{is_marked}

module _ {T : Type 0} where
  -- all places: those that are written, and after them those that never had a value
  abbrev pub padded : List (Option T) → List (Option T)
  padded xs = xs ++ replicate (256 - length xs) None

  -- there are 256 numbers, and just those that have a value are marked
  pub record IsTaken (marks : Marks) (xs : List (Option T)) : Type 0 where
    pub places : length xs ≡ 256
    pub marked : (n : ℕ) → n < 256 → is_marked marks n ≡ is_some (at xs n)

  -- no more places are written than there are, and there is room for all
  pub record AreWritten (marks : Marks) (xs : List (Option T)) (capacity : ℕ) : Type 0 where
    pub few : length xs ≤ 256
    pub room : 256 ≤ capacity
    pub taken : IsTaken marks (padded xs)
