-- What the changes of a map of files keep: each stays a map of files, and only the one path's file changes.

use Rattle.std.proofs.Common.{◌≡◌, ℕ, ◌+◌, List, ◌∷◌, ◌++◌, length, refl, sym, ap, ◌∙◌, subst, arith, cond, T, Bool, true, false, Option, Some, None, is_some, []}
use Rattle.std.specs.Prelude.{IsSome, IsTrue}
use Rattle.std.specs.Cmp.{IsTotalOrder}
use Rattle.std.proofs.lemmas.Cmp.{lists_total, nat_list_cmp_total, tied_itself}
use Rattle.std.specs.FinMap.{nat_cmp-IsAntisymmetric, slice_cmp-IsAntisymmetric}
use Rattle.std.specs.Option.{option_to_list}
use Rattle.std.specs.Ordering.{is_eq, ordering_reverse}
use Rattle.std.specs.declared.cmp.Ordering.{Ordering}
use Rattle.std.specs.declared.cmp.Ordering.TheVariants.{Less, Equal, Greater}
use Rattle.pf_base.specs.declared.meta.File.{File}
use Rattle.pf_machine.specs.FileMap.{Name, Path, Files, path_cmp, same_path, find, by_order, insert, remove, with_mode, set_mode, name_below, names_below, front, is_directory, IsDirectory, AfterPath, IsRising, IsFileMap}

-- The order of paths is total, and only equal paths tie

pub path_total : IsTotalOrder path_cmp
path_total = lists_total nat_list_cmp_total

pub path_itself : (p : Path) → path_cmp p p ≡ Equal
path_itself p = tied_itself path_total p

pub path_tied : (p q : Path) → path_cmp p q ≡ Equal → p ≡ q
path_tied p q e = slice_cmp-IsAntisymmetric (slice_cmp-IsAntisymmetric nat_cmp-IsAntisymmetric) p q e

path_before : (p q : Path) → path_cmp p q ≡ Greater → path_cmp q p ≡ Less
path_before p q e = path_total.antisymm q p ∙ ap ordering_reverse e

is_tied : (o : Ordering) → is_eq o ≡ true → o ≡ Equal
is_tied Less e = absurd (subst T (sym e) tt)
is_tied Equal e = refl
is_tied Greater e = absurd (subst T (sym e) tt)

pub same_path-eq : (p q : Path) → same_path p q ≡ true → p ≡ q
same_path-eq p q e = path_tied p q (is_tied (path_cmp p q) e)

some_is : {X : Type 0} (x : X) → Some x ≡ None → ⊥
some_is x e = subst (λ o. T (is_some o)) e tt

same_path-other : (p q : Path) → (p ≡ q → ⊥) → same_path p q ≡ false
same_path-other p q differ = elim (same_path p q) as (λ b. same_path p q ≡ b → same_path p q ≡ false) [
  | true ↦ λ e. absurd (differ (same_path-eq p q e))
  | false ↦ λ e. e
] refl

-- What is found after a change

pub find-insert : (q p : Path) (f : File) (fs : Files) → find q (insert p f fs) ≡ cond (same_path q p) (Some f) (find q fs)
find-insert q p f [] = refl
find-insert q p f ((r, g) ∷ rest) =
    elim (path_cmp p r) as (λ o. path_cmp p r ≡ o → find q (by_order o ((p, f) ∷ (r, g) ∷ rest) ((p, f) ∷ rest) ((r, g) ∷ insert p f rest)) ≡ cond (same_path q p) (Some f) (cond (same_path q r) (Some g) (find q rest))) [
      | Less ↦ λ e. refl
      | Equal ↦ λ e. subst (λ x. cond (same_path q p) (Some f) (find q rest) ≡ cond (same_path q p) (Some f) (cond (same_path q x) (Some g) (find q rest))) (path_tied p r e)
          (elim (same_path q p) as (λ b. cond b (Some f) (find q rest) ≡ cond b (Some f) (cond b (Some g) (find q rest))) [ true ↦ refl | false ↦ refl ])
      | Greater ↦ λ e. ap (cond (same_path q r) (Some g)) (find-insert q p f rest) ∙ apart (λ a b. not_tied (sym (same_path-eq q p a) ∙ same_path-eq q r b) e) (same_path q p) (same_path q r) refl refl
    ] refl
  where
    not_tied : p ≡ r → path_cmp p r ≡ Greater → ⊥
    not_tied same e = subst (λ o. T (is_eq o)) (sym (path_itself p) ∙ ap (path_cmp p) same ∙ e) tt

    apart : (same_path q p ≡ true → same_path q r ≡ true → ⊥) → (a b : Bool) → same_path q p ≡ a → same_path q r ≡ b → cond b (Some g) (cond a (Some f) (find q rest)) ≡ cond a (Some f) (cond b (Some g) (find q rest))
    apart never true true x y = absurd (never x y)
    apart never true false x y = refl
    apart never false true x y = refl
    apart never false false x y = refl

pub find-remove_same : (p : Path) (fs : Files) → find p (remove p fs) ≡ None
find-remove_same p [] = refl
find-remove_same p ((r, g) ∷ rest) =
    elim (same_path p r) as (λ b. same_path p r ≡ b → find p (cond b (remove p rest) ((r, g) ∷ remove p rest)) ≡ None) [
      | true ↦ λ e. find-remove_same p rest
      | false ↦ λ e. ap (λ b. cond b (Some g) (find p (remove p rest))) e ∙ find-remove_same p rest
    ] refl

pub find-remove_other : (q p : Path) (fs : Files) → same_path q p ≡ false → find q (remove p fs) ≡ find q fs
find-remove_other q p [] differ = refl
find-remove_other q p ((r, g) ∷ rest) differ =
    elim (same_path p r) as (λ b. same_path p r ≡ b → find q (cond b (remove p rest) ((r, g) ∷ remove p rest)) ≡ cond (same_path q r) (Some g) (find q rest)) [
      | true ↦ λ e. find-remove_other q p rest differ ∙ sym (ap (λ b. cond b (Some g) (find q rest)) (ap (same_path q) (sym (same_path-eq p r e)) ∙ differ))
      | false ↦ λ e. ap (cond (same_path q r) (Some g)) (find-remove_other q p rest differ)
    ] refl

-- the file at q where the mode of the one at p is changed
abbrev pub moded : Path → Path → ℕ → Option File → Option File
moded q p mode None = None
moded q p mode (Some f) = Some (cond (same_path p q) (with_mode mode f) f)

pub find-set_mode : (q p : Path) (mode : ℕ) (fs : Files) → find q (set_mode p mode fs) ≡ moded q p mode (find q fs)
find-set_mode q p mode [] = refl
find-set_mode q p mode ((r, g) ∷ rest) =
    elim (same_path q r) as (λ b. same_path q r ≡ b → cond b (Some (cond (same_path p r) (with_mode mode g) g)) (find q (set_mode p mode rest)) ≡ moded q p mode (cond b (Some g) (find q rest))) [
      | true ↦ λ e. ap (λ x. Some (cond (same_path p x) (with_mode mode g) g)) (sym (same_path-eq q r e))
      | false ↦ λ e. find-set_mode q p mode rest
    ] refl

-- The paths still rise

after_earlier : (p q : Path) (fs : Files) → path_cmp p q ≡ Less → AfterPath q fs → AfterPath p fs
after_earlier p q [] lt a = tt
after_earlier p q ((r, g) ∷ rest) lt a = (path_total.trans p q r lt a.0, after_earlier p q rest lt a.1)

after_insert : (q p : Path) (f : File) (fs : Files) → path_cmp q p ≡ Less → AfterPath q fs → AfterPath q (insert p f fs)
after_insert q p f [] lt a = (lt, tt)
after_insert q p f ((r, g) ∷ rest) lt a =
    elim (path_cmp p r) as (λ o. AfterPath q (by_order o ((p, f) ∷ (r, g) ∷ rest) ((p, f) ∷ rest) ((r, g) ∷ insert p f rest))) [
      | Less ↦ (lt, a)
      | Equal ↦ (lt, a.1)
      | Greater ↦ (a.0, after_insert q p f rest lt a.1)
    ]

pub insert-rising : (p : Path) (f : File) (fs : Files) → IsRising fs → IsRising (insert p f fs)
insert-rising p f [] r = (tt, tt)
insert-rising p f ((q, g) ∷ rest) r =
    elim (path_cmp p q) as (λ o. path_cmp p q ≡ o → IsRising (by_order o ((p, f) ∷ (q, g) ∷ rest) ((p, f) ∷ rest) ((q, g) ∷ insert p f rest))) [
      | Less ↦ λ e. ((e, after_earlier p q rest e r.0), r)
      | Equal ↦ λ e. (subst (λ x. AfterPath x rest) (sym (path_tied p q e)) r.0, r.1)
      | Greater ↦ λ e. (after_insert q p f rest (path_before p q e) r.0, insert-rising p f rest r.1)
    ] refl

after_remove : (q p : Path) (fs : Files) → AfterPath q fs → AfterPath q (remove p fs)
after_remove q p [] a = tt
after_remove q p ((r, g) ∷ rest) a =
    elim (same_path p r) as (λ b. AfterPath q (cond b (remove p rest) ((r, g) ∷ remove p rest))) [
      | true ↦ after_remove q p rest a.1
      | false ↦ (a.0, after_remove q p rest a.1)
    ]

pub remove-rising : (p : Path) (fs : Files) → IsRising fs → IsRising (remove p fs)
remove-rising p [] r = tt
remove-rising p ((q, g) ∷ rest) r =
    elim (same_path p q) as (λ b. IsRising (cond b (remove p rest) ((q, g) ∷ remove p rest))) [
      | true ↦ remove-rising p rest r.1
      | false ↦ (after_remove q p rest r.0, remove-rising p rest r.1)
    ]

after_mode : (q p : Path) (mode : ℕ) (fs : Files) → AfterPath q fs → AfterPath q (set_mode p mode fs)
after_mode q p mode [] a = tt
after_mode q p mode ((r, g) ∷ rest) a = (a.0, after_mode q p mode rest a.1)

pub set_mode-rising : (p : Path) (mode : ℕ) (fs : Files) → IsRising fs → IsRising (set_mode p mode fs)
set_mode-rising p mode [] r = tt
set_mode-rising p mode ((q, g) ∷ rest) r = (after_mode q p mode rest r.0, set_mode-rising p mode rest r.1)

-- How many files there are

pub length-insert : (p : Path) (f : File) (fs : Files) → find p fs ≡ None → length (insert p f fs) ≡ length fs + 1
length-insert p f [] absent = omega arith
length-insert p f ((q, g) ∷ rest) absent =
    elim (path_cmp p q) as (λ o. cond (is_eq o) (Some g) (find p rest) ≡ None → length (by_order o ((p, f) ∷ (q, g) ∷ rest) ((p, f) ∷ rest) ((q, g) ∷ insert p f rest)) ≡ length ((q, g) ∷ rest) + 1) [
      | Less ↦ λ e. omega arith
      | Equal ↦ λ e. absurd (some_is g e)
      | Greater ↦ λ e. omega (arith, length-insert p f rest e)
    ] absent

remove_after : (p : Path) (fs : Files) → AfterPath p fs → remove p fs ≡ fs
remove_after p [] a = refl
remove_after p ((q, g) ∷ rest) a = ap (λ b. cond b (remove p rest) ((q, g) ∷ remove p rest)) (ap is_eq a.0) ∙ ap (λ l. (q, g) ∷ l) (remove_after p rest a.1)

pub length-remove : (p : Path) (fs : Files) → IsRising fs → IsSome (find p fs) → length (remove p fs) + 1 ≡ length fs
length-remove p [] r present = absurd (subst T (sym present) tt)
length-remove p ((q, g) ∷ rest) r present =
    elim (same_path p q) as (λ b. same_path p q ≡ b → IsSome (cond b (Some g) (find p rest)) → length (cond b (remove p rest) ((q, g) ∷ remove p rest)) + 1 ≡ length ((q, g) ∷ rest)) [
      | true ↦ λ e some. let gone : length (remove p rest) ≡ length rest = ap length (remove_after p rest (subst (λ x. AfterPath x rest) (sym (same_path-eq p q e)) r.0)) in omega arith
      | false ↦ λ e some. omega (arith, length-remove p rest r.1 some)
    ] refl present

pub length-set_mode : (p : Path) (mode : ℕ) (fs : Files) → length (set_mode p mode fs) ≡ length fs
length-set_mode p mode [] = refl
length-set_mode p mode ((q, g) ∷ rest) = omega (arith, length-set_mode p mode rest)

-- Each file still has its directory

-- the root directory alone
pub opening-map : (root : File) → IsTrue (is_directory root) → IsFileMap (([], root) ∷ [])
opening-map root directory = record { rising = (tt, tt); root = directory; closed = λ p f found. alone p f found }
  where
    alone : (p : Path) (f : File) → find p (([], root) ∷ []) ≡ Some f → IsDirectory (find (front p) (([], root) ∷ []))
    alone [] f found = directory
    alone (n ∷ []) f found = directory
    alone (n ∷ m ∷ p) f found = absurd (some_is f (sym found))

directory_kept : (q p : Path) (f : File) (fs : Files) → find p fs ≡ None → IsDirectory (find q fs) → IsDirectory (find q (insert p f fs))
directory_kept q p f fs absent there = subst IsDirectory (sym (find-insert q p f fs)) (by (same_path q p) refl)
  where
    by : (b : Bool) → same_path q p ≡ b → IsDirectory (cond b (Some f) (find q fs))
    by true e = absurd (subst IsDirectory (ap (λ x. find x fs) (same_path-eq q p e) ∙ absent) there)
    by false e = there

-- a file that was not there, in a directory
pub insert-map : (p : Path) (f : File) (fs : Files) → find p fs ≡ None → IsDirectory (find (front p) fs) → IsFileMap fs → IsFileMap (insert p f fs)
insert-map p f fs absent parent map = record {
  rising = insert-rising p f fs map.rising;
  root = directory_kept [] p f fs absent map.root;
  closed = λ q g found. directory_kept (front q) p f fs absent (by q g (same_path q p) refl (sym (find-insert q p f fs) ∙ found));
}
  where
    by : (q : Path) (g : File) (b : Bool) → same_path q p ≡ b → cond b (Some f) (find q fs) ≡ Some g → IsDirectory (find (front q) fs)
    by q g true e found = subst (λ x. IsDirectory (find (front x) fs)) (sym (same_path-eq q p e)) parent
    by q g false e found = map.closed q g found

tail_empty : {X : Type 0} (xs ys : List X) → xs ++ ys ≡ [] → ys ≡ []
tail_empty [] ys e = e
tail_empty (x ∷ xs) ys e = absurd (omega (arith, ap length e))

front_has : (n : Name) (q : Path) (ns : List Name) → option_to_list (name_below (front (n ∷ q)) (n ∷ q)) ++ ns ≡ [] → ⊥
front_has n [] ns e = absurd (omega (arith, ap length e))
front_has n (m ∷ q) ns e = front_has m q ns (subst (λ b. option_to_list (cond b (name_below (front (m ∷ q)) (m ∷ q)) None) ++ ns ≡ []) (ap is_eq (tied_itself nat_list_cmp_total n)) e)

-- the directory of a file has the file's name
pub front-has_names : (n : Name) (q : Path) (g : File) (fs : Files) → find (n ∷ q) fs ≡ Some g → names_below (front (n ∷ q)) fs ≡ [] → ⊥
front-has_names n q g [] found none = some_is g (sym found)
front-has_names n q g ((r, h) ∷ rest) found none =
    by (λ found none. front-has_names n q g rest found none) (same_path (n ∷ q) r) refl found
  where
    by : (find (n ∷ q) rest ≡ Some g → names_below (front (n ∷ q)) rest ≡ [] → ⊥) → (b : Bool) → same_path (n ∷ q) r ≡ b → cond b (Some h) (find (n ∷ q) rest) ≡ Some g → ⊥
    by below true e found = front_has n q (names_below (front (n ∷ q)) rest) (subst (λ x. option_to_list (name_below (front (n ∷ q)) x) ++ names_below (front (n ∷ q)) rest ≡ []) (sym (same_path-eq (n ∷ q) r e)) none)
    by below false e found = below found (tail_empty (option_to_list (name_below (front (n ∷ q)) r)) (names_below (front (n ∷ q)) rest) none)

-- a file that is not the root, and no directory that has entries
pub remove-map : (p : Path) (fs : Files) → (p ≡ [] → ⊥) → (IsDirectory (find p fs) → names_below p fs ≡ []) → IsFileMap fs → IsFileMap (remove p fs)
remove-map p fs deeper empty map = record {
  rising = remove-rising p fs map.rising;
  root = subst IsDirectory (sym (find-remove_other [] p fs (same_path-other [] p (λ e. deeper (sym e))))) map.root;
  closed = λ q g found. by q g (same_path q p) refl found;
}
  where
    front_stays : (q : Path) (g : File) → find q fs ≡ Some g → front q ≡ p → ⊥
    front_stays [] g found same = deeper (sym same)
    front_stays (n ∷ q) g found same = front-has_names n q g fs found (ap (λ x. names_below x fs) same ∙ empty (subst (λ x. IsDirectory (find x fs)) same (map.closed (n ∷ q) g found)))

    stays : (q : Path) (g : File) → find q fs ≡ Some g → IsDirectory (find (front q) (remove p fs))
    stays q g found = subst IsDirectory (sym (find-remove_other (front q) p fs (same_path-other (front q) p (front_stays q g found)))) (map.closed q g found)

    by : (q : Path) (g : File) (b : Bool) → same_path q p ≡ b → find q (remove p fs) ≡ Some g → IsDirectory (find (front q) (remove p fs))
    by q g true e found = absurd (some_is g (sym found ∙ ap (λ x. find x (remove p fs)) (same_path-eq q p e) ∙ find-remove_same p fs))
    by q g false e found = stays q g (sym (find-remove_other q p fs e) ∙ found)

moded_directory : (q p : Path) (mode : ℕ) (o : Option File) → IsDirectory o → IsDirectory (moded q p mode o)
moded_directory q p mode None there = there
moded_directory q p mode (Some f) there = elim (same_path p q) as (λ b. IsTrue (is_directory (cond b (with_mode mode f) f))) [ true ↦ there | false ↦ there ]

-- another mode
pub set_mode-map : (p : Path) (mode : ℕ) (fs : Files) → IsFileMap fs → IsFileMap (set_mode p mode fs)
set_mode-map p mode fs map = record {
  rising = set_mode-rising p mode fs map.rising;
  root = kept [] map.root;
  closed = λ q g found. kept (front q) (by q g (find q fs) refl (sym (find-set_mode q p mode fs) ∙ found));
}
  where
    kept : (q : Path) → IsDirectory (find q fs) → IsDirectory (find q (set_mode p mode fs))
    kept q there = subst IsDirectory (sym (find-set_mode q p mode fs)) (moded_directory q p mode (find q fs) there)

    by : (q : Path) (g : File) (o : Option File) → find q fs ≡ o → moded q p mode o ≡ Some g → IsDirectory (find (front q) fs)
    by q g None e found = absurd (some_is g (sym found))
    by q g (Some f) e found = map.closed q f e
