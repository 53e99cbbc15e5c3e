-- What a node means: its own file, and its entries' files below their names.
use Rattle.std.specs.Prelude.{◌≡◌, ℕ, List, [], ◌∷◌, ◌++◌}
use Rattle.std.specs.declared.cmp.Ordering.TheVariants.{Less}
use Rattle.pf_base.specs.declared.meta.File.{File}
use Rattle.pf_base.specs.declared.meta.Kind.{Kind}
use Rattle.pf_base.specs.declared.meta.Kind.TheVariants.{Fifo as FifoKind, Directory as DirectoryKind}
use Rattle.std.specs.declared.boxed.Box.{Box}
use Rattle.pf_tree.specs.declared.node.Body.{Body}
use Rattle.pf_tree.specs.declared.node.Body.TheVariants.{Fifo, Directory}
use Rattle.pf_tree.specs.declared.node.Entry.{Entry}
use Rattle.pf_tree.specs.declared.node.Node.TheInside.{Inside}
use Rattle.pf_machine.specs.FileMap.{Files, Name, name_cmp}

-- the files of an entry, below its name
abbrev pub below : Name → Files → Files
below n [] = []
below n ((p, f) ∷ rest) = (n ∷ p, f) ∷ below n rest

-- no path is empty
abbrev pub IsDeeper : Files → Type 0
IsDeeper [] = Unit {0}
IsDeeper (([], f) ∷ rest) = ⊥
IsDeeper ((n ∷ p, f) ∷ rest) = IsDeeper rest

-- the file of the empty path comes first, and once
abbrev pub HasRoot : Files → Type 0
HasRoot [] = ⊥
HasRoot (([], f) ∷ rest) = IsDeeper rest
HasRoot ((n ∷ p, f) ∷ rest) = ⊥

-- a file by its parts
abbrev pub file_of : Kind → ℕ → ℕ → ℕ → ℕ → File
file_of kind mode uid gid number = record { meta = record { kind = kind; mode = mode; uid = uid; gid = gid }; number = number }

-- an entry in its box
abbrev pub Boxed : Type 0 → Type 0
Boxed Z = Box (Entry Z) Z

module _ {Z : Type 0} where
  -- the files of all entries, each entry's below its name
  abbrev pub all_below : List (Boxed Z) → Files
  all_below [] = []
  all_below (e ∷ es) = below e.value.name.items e.value.node ++ all_below es

  -- each name comes after n
  abbrev pub After : Name → List (Boxed Z) → Type 0
  After n [] = Unit {0}
  After n (e ∷ es) = (name_cmp n e.value.name.items ≡ Less) × After n es

  -- each name comes before n
  abbrev pub Before : Name → List (Boxed Z) → Type 0
  Before n [] = Unit {0}
  Before n (e ∷ es) = (name_cmp e.value.name.items n ≡ Less) × Before n es

  -- the names rise
  abbrev pub Rises : List (Boxed Z) → Type 0
  Rises [] = Unit {0}
  Rises (e ∷ es) = After e.value.name.items es × Rises es

  -- each entry's node has a file of its own
  abbrev pub Rooted : List (Boxed Z) → Type 0
  Rooted [] = Unit {0}
  Rooted (e ∷ es) = HasRoot e.value.node × Rooted es

  abbrev pub IsSorted : Body Z → Type 0
  IsSorted Fifo = Unit {0}
  IsSorted (Directory v) = Rises v.items × Rooted v.items

  abbrev pub files_of_body : ℕ → ℕ → ℕ → ℕ → Body Z → Files
  files_of_body m u g n Fifo = ([], file_of FifoKind m u g n) ∷ []
  files_of_body m u g n (Directory v) = ([], file_of DirectoryKind m u g n) ∷ all_below v.items

  abbrev pub files_of : Inside Z → Files
  files_of a = files_of_body a.mode a.uid a.gid a.number a.body
