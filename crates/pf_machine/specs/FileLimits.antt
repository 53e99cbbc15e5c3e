-- Which files a namespace has at all times: MAX_FILES besides the root at most, with names of MAX_NAME bytes at most (this
-- profile's limits).

use Rattle.std.specs.Prelude.{◌+◌, ◌≤◌, [], ◌∷◌, length, ⊤}
use Rattle.pf_base.specs.declared.TheConstants.{MAX_NAME, MAX_FILES}
use Rattle.pf_machine.specs.FileMap.{Files, Path}

-- the last name of a path is short
abbrev pub EndsShort : Path → Type 0
EndsShort [] = ⊤
EndsShort (n ∷ []) = length n ≤ MAX_NAME
EndsShort (n ∷ m ∷ p) = EndsShort (m ∷ p)

abbrev pub AllShort : Files → Type 0
AllShort [] = ⊤
AllShort ((p, f) ∷ rest) = EndsShort p × AllShort rest

pub record IsWithin (fs : Files) : Type 0 where
  pub number : length fs ≤ MAX_FILES + 1
  pub short : AllShort fs
