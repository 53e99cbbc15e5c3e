-- A change of the files at a path that is made below the path's first name: what stands elsewhere stays.
use Rattle.std.specs.Prelude.{◌≡◌, [], ◌∷◌, ◌++◌}
use Rattle.std.specs.declared.cmp.Ordering.TheVariants.{Less, Greater}
use Rattle.pf_base.specs.declared.meta.File.{File}
use Rattle.pf_machine.specs.FileMap.{Name, Path, Files, name_cmp}
use Rattle.pf_tree.specs.Node.{below}

-- the path stands before all that begin with n
abbrev pub IsBefore : Name → Path → Type 0
IsBefore n [] = Unit {0}
IsBefore n (m ∷ q) = name_cmp n m ≡ Greater

-- each path begins with a name after n
abbrev pub IsLater : Name → Files → Type 0
IsLater n [] = Unit {0}
IsLater n (([], f) ∷ rest) = ⊥
IsLater n ((m ∷ q, f) ∷ rest) = (name_cmp n m ≡ Less) × IsLater n rest

pub record IsLocal (change : Path → Files → Files) : Type 0 where
  pub past : (n : Name) (p q : Path) (f : File) (rest : Files) → IsBefore n q → change (n ∷ p) ((q, f) ∷ rest) ≡ (q, f) ∷ change (n ∷ p) rest
  pub within : (n : Name) (p : Path) (here rest : Files) → IsLater n rest → change (n ∷ p) (below n here ++ rest) ≡ below n (change p here) ++ rest
