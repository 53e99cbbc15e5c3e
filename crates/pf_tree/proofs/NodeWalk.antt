-- The visits of a directory: its own, and then those of its entries.
use Rattle.std.proofs.Common.{◌≡◌, ℕ, zero, suc, ◌<◌, ◌≤◌, ◌+◌, List, ◌∷◌, ◌++◌, length, drop, slice_index_or, refl, sym, ap, ◌∙◌, subst, arith, Some, []}
use Rattle.std.specs.List.{FoldsTo}
use Rattle.std.specs.Option.{unwrap_or}
use Rattle.pf_base.specs.declared.meta.File.{File}
use Rattle.pf_machine.specs.FileMap.{Name, Files, find}
use Rattle.pf_tree.specs.Visits.{visits, last_or, depth_from}
use Rattle.pf_tree.specs.Node.{Boxed, below, all_below}

pub folds_append : {P X : Type 0} (R : P → X → P → Type 0) (p j q : P) (xs ys : List X) → FoldsTo R p xs j → FoldsTo R j ys q → FoldsTo R p (xs ++ ys) q
folds_append R p j q [] ys a b = subst (λ s. FoldsTo R s ys q) (sym a) b
folds_append R p j q (x ∷ xs) ys (k, s, a) b = (k, s, folds_append R k j q xs ys a b)

pub visits_below : (d : ℕ) (n m : Name) (v ys : Files) → visits d n (below m v ++ ys) ≡ visits (d + 1) m v ++ visits d n ys
visits_below d n m [] ys = refl
visits_below d n m ((p, f) ∷ v) ys = ap (λ l. (depth_from (d + 1) p, (last_or m p, f.meta)) ∷ l) (visits_below d n m v ys)

-- the first file is the root's
pub first_file : (r f : File) (ys S : Files) → ([], r) ∷ ys ≡ S → find [] S ≡ Some f → S ≡ ([], f) ∷ ys
first_file r f ys S is found =
    let same : r ≡ f = ap (λ o. unwrap_or o f) (ap (find []) is ∙ found) in
    sym is ∙ ap (λ x. ([], x) ∷ ys) same

module _ {Z : Type 0} where
  pub below_from : (es : List (Boxed Z)) (i : ℕ) (e : Boxed Z) → i < length es → e ≡ slice_index_or es i e → all_below (drop i es) ≡ below e.value.name.items e.value.node ++ all_below (drop (suc i) es)
  below_from [] i e lt here = absurd (omega arith)
  below_from (x ∷ es) zero e lt here = ap (λ y. below y.value.name.items y.value.node ++ all_below es) (sym here)
  below_from (x ∷ es) (suc i) e lt here = below_from es i e (omega arith) here

  pub past_below : (es : List (Boxed Z)) (i : ℕ) → length es ≤ i → all_below (drop i es) ≡ []
  past_below [] zero le = refl
  past_below [] (suc i) le = refl
  past_below (e ∷ es) zero le = absurd (omega arith)
  past_below (e ∷ es) (suc i) le = past_below es i (omega arith)
