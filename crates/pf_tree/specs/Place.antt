-- Where a name stands among entries.
use Rattle.std.specs.Prelude.{◌≡◌, ℕ, suc, ◌<◌, ◌≤◌, List, length, take, drop, Result, slice_index_or}
use Rattle.std.specs.declared.result.Result.TheVariants.{Ok, Err}
use Rattle.pf_machine.specs.FileMap.{Name}
use Rattle.pf_tree.specs.Node.{Boxed, Before, After}

module _ {Z : Type 0} where
  abbrev pub IsPlace : Name → List (Boxed Z) → Result ℕ ℕ → Type 0
  IsPlace n es (Ok i) =
      (i < length es) × ((d : Boxed Z) → (slice_index_or es i d).value.name.items ≡ n) × Before n (take i es)
      × After n (drop (suc i) es)
  IsPlace n es (Err i) = (i ≤ length es) × Before n (take i es) × After n (drop i es)
