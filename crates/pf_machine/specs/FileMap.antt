-- The files of a namespace: a finite map from lists of names to files, as the list of its entries, rising by path.
--
-- The empty list of names is the root directory (POSIX.1-2017, 3.324 "Root Directory"). The order is a directory before
-- its entries, and these by the bytes of their names: so a map has one list, and the list is read depth first.

use Rattle.std.specs.Prelude.{◌≡◌, ℕ, List, [], ◌∷◌, ◌++◌, Option, Some, None, IsTrue, Bool, true, false, if◌then◌else◌}
use Rattle.std.specs.Ordering.{nat_cmp, eq_by_cmp}
use Rattle.std.specs.declared.cmp.Ordering.{Ordering}
use Rattle.std.specs.declared.cmp.Ordering.TheVariants.{Less, Equal, Greater}
use Rattle.std.specs.Cmp.Lexicographic.{slice_cmp}
use Rattle.std.specs.Option.{option_to_list}
use Rattle.pf_base.specs.Root.{root}
use Rattle.pf_base.specs.declared.meta.File.{File}
use Rattle.pf_base.specs.declared.meta.Kind.{Kind}
use Rattle.pf_base.specs.declared.meta.Kind.TheVariants.{Fifo, Directory}

-- a name: its bytes (POSIX.1-2017, 3.170 "Filename")
abbrev pub Name : Type 0
Name = List ℕ

-- the names that lead from the root to a file
abbrev pub Path : Type 0
Path = List Name

abbrev pub Files : Type 0
Files = List (Path × File)

-- the root with nothing in it
abbrev pub root_alone : Files
root_alone = ([], root) ∷ []

-- names by bytes
abbrev pub name_cmp : Name → Name → Ordering
name_cmp a b = slice_cmp nat_cmp a b

-- a directory before its entries, and these by name
abbrev pub path_cmp : Path → Path → Ordering
path_cmp p q = slice_cmp name_cmp p q

abbrev pub same_name : Name → Name → Bool
same_name a b = eq_by_cmp name_cmp a b

abbrev pub same_path : Path → Path → Bool
same_path p q = eq_by_cmp path_cmp p q

-- the file at a path
abbrev pub find : Path → Files → Option File
find p [] = None
find p ((q, f) ∷ rest) = if same_path p q then Some f else find p rest

abbrev pub by_order : {X : Type 0} → Ordering → X → X → X → X
by_order Less a b c = a
by_order Equal a b c = b
by_order Greater a b c = c

-- with this file at a path
abbrev pub insert : Path → File → Files → Files
insert p f [] = (p, f) ∷ []
insert p f ((q, g) ∷ rest) = by_order (path_cmp p q) ((p, f) ∷ (q, g) ∷ rest) ((p, f) ∷ rest) ((q, g) ∷ insert p f rest)

-- with nothing at a path
abbrev pub remove : Path → Files → Files
remove p [] = []
remove p ((q, f) ∷ rest) = if same_path p q then remove p rest else (q, f) ∷ remove p rest

-- a file with another mode
abbrev pub with_mode : ℕ → File → File
with_mode mode f = record f { meta = record f.meta { mode = mode } }

-- with another mode at a path
abbrev pub set_mode : Path → ℕ → Files → Files
set_mode p mode [] = []
set_mode p mode ((q, f) ∷ rest) = (q, if same_path p q then with_mode mode f else f) ∷ set_mode p mode rest

-- the name by which q stands right below p
abbrev pub name_below : Path → Path → Option Name
name_below [] [] = None
name_below [] (n ∷ []) = Some n
name_below [] (n ∷ m ∷ q) = None
name_below (x ∷ p) [] = None
name_below (x ∷ p) (y ∷ q) = if same_name x y then name_below p q else None

-- the names right below a path, by bytes
abbrev pub names_below : Path → Files → List Name
names_below p [] = []
names_below p ((q, f) ∷ rest) = option_to_list (name_below p q) ++ names_below p rest

-- names with a slash behind each
abbrev pub listed : List Name → List ℕ
listed [] = []
listed (n ∷ ns) = n ++ 47 ∷ listed ns

-- Which lists are a namespace's files

-- a path without its last name
abbrev pub front : Path → Path
front [] = []
front (n ∷ []) = []
front (n ∷ m ∷ p) = n ∷ front (m ∷ p)

abbrev pub is_directory : File → Bool
is_directory f = by_kind f.meta.kind
  where
    by_kind : Kind → Bool
    by_kind Fifo = false
    by_kind Directory = true

-- there is a file, and it is a directory
abbrev pub IsDirectory : Option File → Type 0
IsDirectory None = ⊥
IsDirectory (Some f) = IsTrue (is_directory f)

-- each path comes after p
abbrev pub AfterPath : Path → Files → Type 0
AfterPath p [] = Unit {0}
AfterPath p ((q, f) ∷ rest) = (path_cmp p q ≡ Less) × AfterPath p rest

abbrev pub IsRising : Files → Type 0
IsRising [] = Unit {0}
IsRising ((p, f) ∷ rest) = AfterPath p rest × IsRising rest

-- the paths rise, and what stands at a path has a directory at the path without its last name: the root's is the root
pub record IsFileMap (fs : Files) : Type 0 where
  pub rising : IsRising fs
  pub root : IsDirectory (find [] fs)
  pub closed : (p : Path) (f : File) → find p fs ≡ Some f → IsDirectory (find (front p) fs)
