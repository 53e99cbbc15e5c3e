-- How a walk stands in a tree.

use Rattle.std.specs.Prelude.{◌≡◌, ◌<◌, ℕ, List, [], ◌∷◌, ◌++◌, length, Result, Ok, Err, Some, false, filter, ◌&&◌}
use Rattle.std.specs.Borrow.{Bor}
use Rattle.pf_machine.specs.FileMap.{Name, Path, Files, IsDirectory, find, front, names_below}
use Rattle.pf_machine.specs.Refusals.{◌>>=◌, or_refuse}
use Rattle.pf_base.specs.declared.errno.Errno.{Errno}
use Rattle.pf_base.specs.declared.errno.Errno.TheVariants.{ENOENT}
use Rattle.pf_base.specs.declared.meta.File.{File}
use Rattle.pf_tree.specs.Subtrees.{subtree, under}
use Rattle.pf_machine.specs.Paths.{Last, Nothing, Named, components, ends_in_slash, is_component, is_dotted, is_nonempty, reach, entry}
use Rattle.pf_base.specs.declared.cred.Cred.{Cred}
use Rattle.pf_walk.specs.declared.calls.Place.{Place}
use Rattle.pf_walk.specs.Resolutions.{way}

-- each node is what stands under its name in the one before, the first in the root
abbrev pub Stands : Files → List (Bor Name) → List (Bor Files) → Type 0
Stands fs [] [] = Unit {0}
Stands fs [] (d ∷ ds) = ⊥
Stands fs (n ∷ ns) [] = ⊥
Stands fs (n ∷ ns) (d ∷ ds) = (d.now ≡ under n.now fs) × Stands d.now ns ds

-- the file at a path that was arrived at
abbrev pub file_at : Files → Result Path Errno → Result (Path × File) Errno
file_at files r = r >>= (λ at. or_refuse ENOENT (find at files) >>= (λ f. Ok (at, f)))

-- what a piece between slashes names: nothing where it is empty
abbrev pub named : Name → Path
named n = filter is_component (n ∷ [])

-- wherever this node stands, a walk stops at this name
abbrev pub Stops : Files → Cred → Name → Errno → Type 0
Stops node c n e =
    (fs : Files) (p ns : Path) → node ≡ subtree p fs → reach fs c p (named n ++ ns) ≡ Err e

-- wherever this node stands, a walk goes on from it by this name to that one
abbrev pub Leads : Files → Cred → Name → Files → Type 0
Leads node c n next =
    (fs : Files) (p ns : Path) → node ≡ subtree p fs
    → (next ≡ subtree (p ++ named n) fs) × (reach fs c p (named n ++ ns) ≡ reach fs c (p ++ named n) ns)

-- wherever this node stands, with a name kept back, it leads one piece further: to a node, with a name kept back there
abbrev pub Follows : Files → Cred → Name → Name → Files → Name → Type 0
Follows node c last n next kept =
    (fs : Files) (p : Path) → node ≡ subtree p fs → reach fs c [] p ≡ Ok p → (q : Path) × (next ≡ subtree q fs)
    × (reach fs c [] q ≡ Ok q) × (is_dotted kept ≡ false)
    × ((ns : Path) → p ++ (named last ++ (named n ++ ns)) ≡ q ++ (named kept ++ ns))
    × (front (p ++ named last) ≡ p → front (q ++ named kept) ≡ q)

-- a node stands at the names of a path but for this last one, which is empty where there is none
abbrev pub Parts : Files → Cred → List ℕ → Files → Name → Type 0
Parts fs c bs node last = (p : Path) × (node ≡ subtree p fs) × (reach fs c [] p ≡ Ok p) × (is_dotted last ≡ false)
    × (p ++ named last ≡ components bs) × (front (components bs) ≡ p)

-- what a path names last, where that is none of `.` and `..`
abbrev pub last_named : Name → Last
last_named [] = Nothing
last_named (b ∷ n) = Named (b ∷ n)

-- a path's entry has this name, in the directory at this node
abbrev pub IsParent : Files → Cred → List ℕ → Files → Name → Type 0
IsParent fs c bs node name = (p : Path) × (node ≡ subtree p fs) × (p ++ named name ≡ components bs)
    × IsDirectory (find [] node) × ((f : File) → find [] node ≡ Some f → entry fs c bs ≡ Ok (record {
      path = p;
      file = f;
      last = last_named name;
      slash = ends_in_slash bs && is_nonempty (components bs);
    }))

-- what an entry's place tells of the files
abbrev pub IsPlace : Files → Place → Type 0
IsPlace fs l = (0 < length (way l.way)) × IsDirectory (find (front (way l.way)) fs) × (l.file ≡ find (way l.way) fs)
    × (l.full ≡ is_nonempty (names_below (way l.way) fs))
