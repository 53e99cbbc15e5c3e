-- The files of a tree as a walk meets them: a directory before its entries, each with its depth and its name.
use Rattle.std.specs.Prelude.{◌≡◌, ℕ, ◌+◌, List, [], ◌∷◌}
use Rattle.std.specs.Borrow.{Bor}
use Rattle.pf_base.specs.declared.meta.Meta.{Meta}
use Rattle.pf_machine.specs.FileMap.{Name, Path, Files}

-- the last name of a path, and n where it has none
abbrev pub last_or : Name → Path → Name
last_or n [] = n
last_or n (m ∷ p) = last_or m p

-- d more than the number of names
abbrev pub depth_from : ℕ → Path → ℕ
depth_from d [] = d
depth_from d (m ∷ p) = depth_from (d + 1) p

abbrev pub visits : ℕ → Name → Files → List (ℕ × (Name × Meta))
visits d n [] = []
visits d n ((p, f) ∷ rest) = (depth_from d p, (last_or n p, f.meta)) ∷ visits d n rest

-- a call at references to a name and what is known of a file
abbrev pub Visits : {F : Type 0} → (F → ℕ → Bor Name → Bor Meta → Unit {0} → F → Type 0) → F → ℕ × (Name × Meta) → F → Type 0
Visits step p x q = (n : Bor Name) × (m : Bor Meta) × (n.now ≡ x.1.0) × (m.now ≡ x.1.1) × step p x.0 n m tt q
