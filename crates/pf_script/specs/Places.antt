-- Where each namespace's lines stand.

use Rattle.std.specs.Prelude.{ℕ, ◌+◌, ◌≡◌, ◌<◌, List, [], ◌∷◌, length, nat_eq, slice_index_or, if◌then◌else◌}
use Rattle.std.specs.declared.vec.Vec.{Vec}
use Rattle.std.specs.declared.alloc.Global.{Global}
use Rattle.pf_script.specs.declared.line.Line.{Line}

-- the places of the lines of namespace n, where the first place is i
abbrev pub places_from : ℕ → List (ℕ × Line) → ℕ → List ℕ
places_from i [] n = []
places_from i (e ∷ es) n = if nat_eq e.0 n then i ∷ places_from (i + 1) es n else places_from (i + 1) es n

-- the same, the first place is 0
abbrev pub places_of : List (ℕ × Line) → ℕ → List ℕ
places_of steps n = places_from 0 steps n

-- what the lines of namespace n say
abbrev pub lines_of : List (ℕ × Line) → ℕ → List Line
lines_of [] n = []
lines_of (e ∷ es) n = if nat_eq e.0 n then e.1 ∷ lines_of es n else lines_of es n

-- these are the places for each number of a namespace
pub record AreKept (steps : List (ℕ × Line)) (places : List (Vec ℕ Global)) : Type 0 where
  pub many : length places ≡ 64
  pub each : (n : ℕ) (d : Vec ℕ Global) → n < 64 → (slice_index_or places n d).items ≡ places_of steps n
