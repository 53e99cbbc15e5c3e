-- What a contract sees of a namespace's place.

use Rattle.std.specs.Prelude.{ℕ, List, map}

-- its number, and who waits there for its next event
pub record OnePlace (W : Type 0) : Type 0 where
  pub ns : ℕ
  pub next : W

-- the numbers of some places
abbrev pub numbers_of : {W : Type 0} → List (OnePlace W) → List ℕ
numbers_of places = map (λ p. p.ns) places
