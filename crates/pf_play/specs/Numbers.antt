-- A hub gives numbers only to those that it admits: which number each name has, and what the hub's house is by name.

use Rattle.std.specs.Prelude.{ℕ, zero, suc, ◌≡◌, ◌+◌, List, [], ◌∷◌, Option, Some, None}
use Rattle.pf_base.specs.declared.admission.EventAnswer.{EventAnswer}
use Rattle.pf_machine.specs.Houses.{House, Guest, Event}
use Rattle.pf_play.specs.Houses.{Falls}

-- so many numbers from i on
abbrev pub numbers_from : ℕ → ℕ → List (Option ℕ)
numbers_from i zero = []
numbers_from i (suc count) = Some i ∷ numbers_from (i + 1) count

-- guests by name, and by number from i on: a name that has a number has the next one, and its place by name is empty
-- where it has none
abbrev pub IsSpread : ℕ → List (Option ℕ) → List (Option Guest) → List (Option Guest) → Type 0
IsSpread i [] [] [] = Unit {0}
IsSpread i [] [] (h ∷ hs) = ⊥
IsSpread i [] (g ∷ gs) hs = ⊥
IsSpread i (None ∷ ns) gs [] = ⊥
IsSpread i (None ∷ ns) gs (h ∷ hs) = (h ≡ None) × IsSpread i ns gs hs
IsSpread i (Some m ∷ ns) [] hs = ⊥
IsSpread i (Some m ∷ ns) (g ∷ gs) [] = ⊥
IsSpread i (Some m ∷ ns) (g ∷ gs) (h ∷ hs) = (m ≡ i) × (h ≡ g) × IsSpread (i + 1) ns gs hs

-- a house by number, and by name
pub record IsNamed (ns : List (Option ℕ)) (hub named : House) : Type 0 where
  pub frames : named.frames ≡ hub.frames
  pub guests : IsSpread 0 ns hub.guests named.guests

-- what happens by number happens by name, with this answer, and these numbers afterwards
abbrev pub Follows : List (Option ℕ) → House → House → Event → EventAnswer → Type 0
Follows ns hub named event a = (new : House) × Falls named event a new × IsNamed ns hub new
