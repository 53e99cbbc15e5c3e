-- What is found below a path is what is found at the longer path.

use Rattle.std.proofs.Common.{◌≡◌, [], ◌∷◌, ◌++◌, refl, sym, ap, ◌∙◌, cond, Some}
use Rattle.std.specs.Ordering.{ordering_then, is_eq}
use Rattle.std.specs.declared.cmp.Ordering.TheVariants.{Less, Equal, Greater}
use Rattle.pf_machine.specs.FileMap.{Name, Path, Files, name_cmp, path_cmp, find}
use Rattle.pf_tree.specs.Subtrees.{under, subtree}

-- a path's file is its rest's file among what stands under its first name
pub find_under : (n : Name) (p : Path) (fs : Files) → find (n ∷ p) fs ≡ find p (under n fs)
find_under n p [] = refl
find_under n p (([], f) ∷ rest) = find_under n p rest
find_under n p ((m ∷ q, f) ∷ rest) =
    elim (name_cmp n m) as (λ o. cond (is_eq (ordering_then o (path_cmp p q))) (Some f) (find (n ∷ p) rest) ≡ find p (cond (is_eq o) ((q, f) ∷ under n rest) (under n rest))) [
      | Less ↦ find_under n p rest
      | Equal ↦ ap (λ x. cond (is_eq (path_cmp p q)) (Some f) x) (find_under n p rest)
      | Greater ↦ find_under n p rest
    ]

pub find_subtree : (p : Path) (fs : Files) → find p fs ≡ find [] (subtree p fs)
find_subtree [] fs = refl
find_subtree (n ∷ p) fs = find_under n p fs ∙ find_subtree p (under n fs)

pub subtree_append : (p q : Path) (fs : Files) → subtree (p ++ q) fs ≡ subtree q (subtree p fs)
subtree_append [] q fs = refl
subtree_append (n ∷ p) q fs = subtree_append p q (under n fs)

pub find_below : (p q : Path) (fs : Files) → find q (subtree p fs) ≡ find (p ++ q) fs
find_below [] q fs = refl
find_below (n ∷ p) q fs = find_below p q (under n fs) ∙ sym (find_under n (p ++ q) fs)
