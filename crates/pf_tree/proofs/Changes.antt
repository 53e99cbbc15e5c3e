-- An insert, a removal and a new mode are local changes.
use Rattle.std.proofs.Common.{◌≡◌, ℕ, [], ◌∷◌, ◌++◌, refl, sym, ap, cond, true, false}
use Rattle.std.specs.Prelude.{if◌then◌else◌}
use Rattle.std.specs.Ordering.{is_eq}
use Rattle.std.specs.declared.cmp.Ordering.TheVariants.{Less, Equal, Greater}
use Rattle.pf_base.specs.declared.meta.File.{File}
use Rattle.pf_base.specs.declared.meta.Kind.TheVariants.{Directory as DirectoryKind}
use Rattle.pf_machine.specs.FileMap.{Name, Path, Files, path_cmp, by_order, insert, remove}
use Rattle.pf_machine.specs.FileMap.{with_mode, set_mode, same_path}
use Rattle.pf_tree.specs.Local.{IsBefore, IsLater, IsLocal}
use Rattle.pf_tree.specs.Node.{IsDeeper, below, all_below, file_of, files_of_body}
use Rattle.pf_tree.specs.declared.node.Body.{Body}
use Rattle.pf_tree.specs.declared.node.Body.TheVariants.{Fifo, Directory}
use Rattle.pf_tree.proofs.Levels.{deeper_all}
use Rattle.pf_tree.proofs.Names.{itself}

-- a change at what stands at a path below the path
pub at_end : {change : Path → Files → Files} (q : Path) → IsLocal change → IsLocal (λ p. change (p ++ q))
at_end q local = record { past = λ n p. local.past n (p ++ q); within = λ n p. local.within n (p ++ q) }

-- a change that makes nothing
pub none_local : IsLocal (λ p s. s)
none_local = record { past = λ n p q f rest b. refl; within = λ n p here rest l. refl }

module _ (f : File) where
  insert_past : (n : Name) (p q : Path) (g : File) (rest : Files) → IsBefore n q
      → insert (n ∷ p) f ((q, g) ∷ rest) ≡ (q, g) ∷ insert (n ∷ p) f rest
  insert_past n p [] g rest b = refl
  insert_past n p (m ∷ q) g rest b = rw b refl

  insert_within : (n : Name) (p : Path) (here rest : Files) → IsLater n rest
      → insert (n ∷ p) f (below n here ++ rest) ≡ below n (insert p f here) ++ rest
  insert_within n p [] [] l = refl
  insert_within n p [] (([], g) ∷ rest) l = absurd l
  insert_within n p [] ((m ∷ q, g) ∷ rest) l = rw l.0 refl
  insert_within n p ((q, g) ∷ here) rest l =
      let whole = below n here ++ rest in
      rw (itself n)
      (elim (path_cmp p q) as (λ o.
      by_order o ((n ∷ p, f) ∷ (n ∷ q, g) ∷ whole) ((n ∷ p, f) ∷ whole) ((n ∷ q, g) ∷ insert (n ∷ p) f whole)
      ≡ below n (by_order o ((p, f) ∷ (q, g) ∷ here) ((p, f) ∷ here) ((q, g) ∷ insert p f here)) ++ rest) [
        | Less ↦ refl
        | Equal ↦ refl
        | Greater ↦ ap (λ l. (n ∷ q, g) ∷ l) (insert_within n p here rest l)
      ])

  pub insert_local : IsLocal (λ p s. insert p f s)
  insert_local = record { past = insert_past; within = insert_within }

remove_past : (n : Name) (p q : Path) (f : File) (rest : Files) → IsBefore n q
    → remove (n ∷ p) ((q, f) ∷ rest) ≡ (q, f) ∷ remove (n ∷ p) rest
remove_past n p [] f rest b = refl
remove_past n p (m ∷ q) f rest b = rw b refl

remove_within : (n : Name) (p : Path) (here rest : Files) → IsLater n rest
    → remove (n ∷ p) (below n here ++ rest) ≡ below n (remove p here) ++ rest
remove_within n p [] [] l = refl
remove_within n p [] (([], f) ∷ rest) l = absurd l
remove_within n p [] ((m ∷ q, f) ∷ rest) l = rw l.0 (ap (λ s. (m ∷ q, f) ∷ s) (remove_within n p [] rest l.1))
remove_within n p ((q, f) ∷ here) rest l =
    let whole = remove (n ∷ p) (below n here ++ rest) in
    rw (itself n)
    (elim (is_eq (path_cmp p q)) as (λ b.
    cond b whole ((n ∷ q, f) ∷ whole) ≡ below n (cond b (remove p here) ((q, f) ∷ remove p here)) ++ rest) [
      | true ↦ remove_within n p here rest l
      | false ↦ ap (λ s. (n ∷ q, f) ∷ s) (remove_within n p here rest l)
    ])

pub remove_local : IsLocal remove
remove_local = record { past = remove_past; within = remove_within }

module _ (mode : ℕ) where
  mode_past : (n : Name) (p q : Path) (f : File) (rest : Files) → IsBefore n q
      → set_mode (n ∷ p) mode ((q, f) ∷ rest) ≡ (q, f) ∷ set_mode (n ∷ p) mode rest
  mode_past n p [] f rest b = refl
  mode_past n p (m ∷ q) f rest b = rw b refl

  mode_within : (n : Name) (p : Path) (here rest : Files) → IsLater n rest
      → set_mode (n ∷ p) mode (below n here ++ rest) ≡ below n (set_mode p mode here) ++ rest
  mode_within n p [] [] l = refl
  mode_within n p [] (([], f) ∷ rest) l = absurd l
  mode_within n p [] ((m ∷ q, f) ∷ rest) l = rw l.0 (ap (λ s. (m ∷ q, f) ∷ s) (mode_within n p [] rest l.1))
  mode_within n p ((q, f) ∷ here) rest l =
      let moded = if same_path p q then with_mode mode f else f in
      rw (itself n) (ap (λ s. (n ∷ q, moded) ∷ s) (mode_within n p here rest l))

  pub mode_local : IsLocal (λ p s. set_mode p mode s)
  mode_local = record { past = mode_past; within = mode_within }

  -- the empty path's mode leaves what is below
  mode_deeper : (s : Files) → IsDeeper s → set_mode [] mode s ≡ s
  mode_deeper [] h = refl
  mode_deeper (([], f) ∷ s) h = absurd h
  mode_deeper ((n ∷ p, f) ∷ s) h = ap (λ l. (n ∷ p, f) ∷ l) (mode_deeper s h)

  pub mode_here : {Z : Type 0} (old uid gid number : ℕ) (b : Body Z)
      → files_of_body mode uid gid number b ≡ set_mode [] mode (files_of_body old uid gid number b)
  mode_here old uid gid number Fifo = refl
  mode_here old uid gid number (Directory v) =
      let deeper = mode_deeper (all_below v.items) (deeper_all v.items) in
      ap (λ l. ([], file_of DirectoryKind mode uid gid number) ∷ l) (sym deeper)
