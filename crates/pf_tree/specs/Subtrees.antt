-- The part of a map of files that stands below a path, and the path that a slice of names is.

use Rattle.std.specs.Prelude.{List, [], ◌∷◌, if◌then◌else◌}
use Rattle.std.specs.Borrow.{Bor}
use Rattle.pf_machine.specs.FileMap.{Name, Path, Files, same_name}

-- what stands below a name, each path without that name
abbrev pub under : Name → Files → Files
under n [] = []
under n (([], f) ∷ rest) = under n rest
under n ((m ∷ p, f) ∷ rest) = if same_name n m then (p, f) ∷ under n rest else under n rest

-- what stands below a path, each path without it
abbrev pub subtree : Path → Files → Files
subtree [] fs = fs
subtree (n ∷ p) fs = subtree p (under n fs)

-- the names behind references
abbrev pub path_of : List (Bor Name) → Path
path_of [] = []
path_of (r ∷ rs) = r.now ∷ path_of rs
