-- Walking down a path.
use Rattle.std.proofs.Common.{◌≡◌, ℕ, zero, suc, ◌<◌, ◌≤◌, List, [], ◌∷◌, ◌++◌, length, drop, slice_index_or}
use Rattle.std.proofs.Common.{refl, sym, ap, ◌∙◌, subst, arith, T, Option, None, Some, is_some}
use Rattle.std.specs.Prelude.{IsSome}
use Rattle.std.specs.Borrow.{Bor}
use Rattle.pf_base.specs.declared.meta.File.{File}
use Rattle.pf_machine.specs.FileMap.{Name, Path, Files, find, front, IsDirectory}
use Rattle.pf_tree.specs.Node.{HasRoot}
use Rattle.pf_tree.specs.Subtrees.{under, subtree, path_of}
use Rattle.pf_tree.proofs.SubtreeLaws.{find_subtree, find_below}

pub subtree_nothing : (p : Path) → subtree p [] ≡ []
subtree_nothing [] = refl
subtree_nothing (n ∷ p) = subtree_nothing p

-- the path from a place on begins with the name there
pub path_from : (rs : List (Bor Name)) (i : ℕ) (d : Bor Name) → i < length rs
    → path_of (drop i rs) ≡ (slice_index_or rs i d).now ∷ path_of (drop (suc i) rs)
path_from [] i d lt = absurd (omega arith)
path_from (r ∷ rs) zero d lt = refl
path_from (r ∷ rs) (suc i) d lt = path_from rs i d (omega arith)

pub past : (rs : List (Bor Name)) (i : ℕ) → length rs ≤ i → path_of (drop i rs) ≡ []
past [] zero le = refl
past [] (suc i) le = refl
past (r ∷ rs) zero le = absurd (omega arith)
past (r ∷ rs) (suc i) le = past rs i (omega arith)

-- where no entry has the next name, nothing is found
pub lost : (s node : Files) (rs : List (Bor Name)) (i : ℕ) (d : Bor Name) → i < length rs
    → subtree (path_of (drop i rs)) node ≡ subtree (path_of rs) s → under (slice_index_or rs i d).now node ≡ []
    → find (path_of rs) s ≡ None
lost s node rs i d lt inv none =
    let rest = path_of (drop (suc i) rs) in
    let here = sym inv ∙ ap (λ p. subtree p node) (path_from rs i d lt) in
    find_subtree (path_of rs) s ∙ ap (find []) (here ∙ ap (subtree rest) none ∙ subtree_nothing rest)

front_push : (rs : List (Bor Name)) (r : Bor Name) → front (path_of (rs ++ r ∷ [])) ≡ path_of rs
front_push [] r = refl
front_push (x ∷ []) r = refl
front_push (x ∷ y ∷ rs) r = ap (λ l. x.now ∷ l) (front_push (y ∷ rs) r)

path_push : (rs : List (Bor Name)) (r : Bor Name) → path_of (rs ++ r ∷ []) ≡ path_of rs ++ r.now ∷ []
path_push [] r = refl
path_push (x ∷ rs) r = ap (λ l. x.now ∷ l) (path_push rs r)

-- a path as the one to a directory and a name there
module _ (parent : List (Bor Name)) (name : Bor Name) {path : List (Bor Name)} (is : path ≡ parent ++ name ∷ []) where
  pub whole : path_of path ≡ path_of parent ++ name.now ∷ []
  whole = ap path_of is ∙ path_push parent name

  pub at_parent : (s : Files) → find (name.now ∷ []) (subtree (path_of parent) s) ≡ find (path_of path) s
  at_parent s = find_below (path_of parent) (name.now ∷ []) s ∙ ap (λ p. find p s) (sym whole)

  pub parent_is : (s : Files) → find (front (path_of path)) s ≡ find [] (subtree (path_of parent) s)
  parent_is s =
      ap (λ l. find (front (path_of l)) s) is ∙ ap (λ p. find p s) (front_push parent name)
      ∙ find_subtree (path_of parent) s

pub long : (rs : List (Bor Name)) → length rs ≡ length (path_of rs)
long [] = refl
long (r ∷ rs) = omega (arith, long rs)

-- What is there, and what isn't

pub root_found : (v : Files) → HasRoot v → IsSome (find [] v)
root_found [] h = absurd h
root_found (([], f) ∷ v) h = refl
root_found ((n ∷ p, f) ∷ v) h = absurd h

pub there : (o : Option File) → IsDirectory o → IsSome o
there None d = absurd d
there (Some f) d = refl

pub not_both : {o : Option File} → o ≡ None → IsSome o → ⊥
not_both none some = subst T (sym (sym (ap is_some none) ∙ some)) tt

pub nonempty : (p : Path) (v : Files) → IsSome (find p v) → 0 < length v
nonempty p [] h = absurd (subst T (sym h) tt)
nonempty p (x ∷ v) h = omega arith

-- where nothing stands under its first name, nothing stands below a path
pub nowhere : (s : Files) {rs rest : List (Bor Name)} {r : Bor Name} → rs ≡ r ∷ rest → under r.now s ≡ []
    → 0 < length (subtree (path_of rs) s) → ⊥
nowhere s {rest = rest} is none there =
    let e = ap (λ l. subtree (path_of l) s) is ∙ ap (subtree (path_of rest)) none ∙ subtree_nothing (path_of rest) in
    omega (arith, there, ap length e)
