-- Entries around the place of a name.
use Rattle.std.proofs.Common.{◌≡◌, ℕ, zero, suc, ◌<◌, ◌≤◌, List, [], ◌∷◌, length, take, drop, slice_index_or}
use Rattle.std.proofs.Common.{refl, subst, arith, true, false, nat_lt}
use Rattle.std.specs.Prelude.{Result}
use Rattle.std.proofs.lemmas.Bool.Decides.{nat_tests}
use Rattle.std.specs.declared.result.Result.TheVariants.{Ok, Err}
use Rattle.std.specs.declared.cmp.Ordering.TheVariants.{Less, Equal, Greater}
use Rattle.std.specs.Ordering.{ordering_index}
use Rattle.std.specs.List.Sorted.{IsSearchInRange, IsBinarySearchResult, IsNonDecreasingBy}
use Rattle.std.proofs.lemmas.List.Sorted.{IsNonDecreasingBy-from_default}
use Rattle.pf_machine.specs.FileMap.{Name, name_cmp}
use Rattle.pf_tree.specs.Node.{Boxed, After, Before, Rises}
use Rattle.pf_tree.specs.Place.{IsPlace}
use Rattle.pf_tree.proofs.Names.{total, same, later, earlier}

-- what the comparisons with a name say of two places in turn
rising : (n a b : Name) → name_cmp a b ≡ Less → ordering_index (name_cmp a n) ≤ ordering_index (name_cmp b n)
rising n a b lt =
    elim (name_cmp a n) as (λ o. name_cmp a n ≡ o → ordering_index o ≤ ordering_index (name_cmp b n)) [
      | Less ↦ λ e. omega arith
      | Equal ↦ λ e. rw (later n b (subst (λ m. name_cmp m b ≡ Less) (same a n e) lt)) (omega arith)
      | Greater ↦ λ e. rw (later n b (total.trans n a b (earlier a n e) lt)) (omega arith)
    ] refl

module _ {Z : Type 0} where
  abbrev name_at : List (Boxed Z) → ℕ → Boxed Z → Name
  name_at es i d = (slice_index_or es i d).value.name.items

  after_at : (m : Name) (es : List (Boxed Z)) (i : ℕ) (d : Boxed Z) → After m es → i < length es
      → name_cmp m (name_at es i d) ≡ Less
  after_at m [] i d a lt = absurd (omega arith)
  after_at m (e ∷ es) zero d a lt = a.0
  after_at m (e ∷ es) (suc i) d a lt = after_at m es i d a.1 (omega arith)

  rise_at : (es : List (Boxed Z)) (i j : ℕ) (d : Boxed Z) → Rises es → i < j → j < length es
      → name_cmp (name_at es i d) (name_at es j d) ≡ Less
  rise_at [] i j d r lt in_range = absurd (omega arith)
  rise_at (e ∷ es) i zero d r lt in_range = absurd (omega arith)
  rise_at (e ∷ es) zero (suc j) d r lt in_range = after_at e.value.name.items es j d r.0 (omega arith)
  rise_at (e ∷ es) (suc i) (suc j) d r lt in_range = rise_at es i j d r.1 (omega arith) (omega arith)

  before_take : (n : Name) (es : List (Boxed Z)) (i : ℕ)
      → ((k : ℕ) (d : Boxed Z) → k < i → k < length es → name_cmp (name_at es k d) n ≡ Less) → Before n (take i es)
  before_take n [] zero h = tt
  before_take n [] (suc i) h = tt
  before_take n (e ∷ es) zero h = tt
  before_take n (e ∷ es) (suc i) h =
      (h 0 e (omega arith) (omega arith), before_take n es i (λ k d lt in_range. h (suc k) d (omega arith) (omega arith)))

  after_drop : (n : Name) (es : List (Boxed Z)) (i : ℕ)
      → ((k : ℕ) (d : Boxed Z) → i ≤ k → k < length es → name_cmp n (name_at es k d) ≡ Less) → After n (drop i es)
  after_drop n [] zero h = tt
  after_drop n [] (suc i) h = tt
  after_drop n (e ∷ es) zero h =
      (h 0 e (omega arith) (omega arith), after_drop n es zero (λ k d le in_range. h (suc k) d (omega arith) (omega arith)))
  after_drop n (e ∷ es) (suc i) h = after_drop n es i (λ k d le in_range. h (suc k) d (omega arith) (omega arith))

  abbrev place : Name → List (Boxed Z) → Boxed Z → ℕ → ℕ
  place n es d i = ordering_index (name_cmp (name_at es i d) n)

  comparisons_rise : (n : Name) (es : List (Boxed Z)) (d : Boxed Z) → Rises es
      → IsNonDecreasingBy (λ e. ordering_index (name_cmp e.value.name.items n)) es
  comparisons_rise n es d rises =
      IsNonDecreasingBy-from_default (λ x. ordering_index (name_cmp x.value.name.items n)) es d by
    where
      by : (i j : ℕ) → i ≤ j → j < length es → place n es d i ≤ place n es d j
      by i j le in_range = elim (nat_lt i j) as (λ b. nat_lt i j ≡ b → place n es d i ≤ place n es d j) [
        | true ↦ λ e. rising n _ _ (rise_at es i j d rises (grind (arith, nat_tests)) in_range)
        | false ↦ λ e. let eq : i ≡ j = grind (arith, nat_tests) in rw eq (omega arith)
      ] refl

  pub placed : (n : Name) (es : List (Boxed Z)) (r : Result ℕ ℕ) → Rises es → IsSearchInRange r (length es)
      → IsBinarySearchResult (λ e. name_cmp e.value.name.items n) es r → IsPlace n es r
  placed n es (Ok i) rises within found =
      let named = λ (d : Boxed Z). same _ n (found d) in
      let before = λ (k : ℕ) (d : Boxed Z) (lt : k < i). rise_at es k i d rises lt within in
      let after = λ (k : ℕ) (d : Boxed Z) (lt : i < k). rise_at es i k d rises lt in (
        within,
        named,
        before_take n es i (λ k d lt _. subst (λ m. name_cmp (name_at es k d) m ≡ Less) (named d) (before k d lt)),
        after_drop n es (suc i) (λ k d le lt. subst (λ m. name_cmp m (name_at es k d) ≡ Less) (named d) (after k d (omega arith) lt)),
      )
  placed n [] (Err i) rises within parted = (
    within,
    before_take n [] i (λ k d lt in_range. absurd (omega arith)),
    after_drop n [] i (λ k d le in_range. absurd (omega arith)),
  )
  placed n (e ∷ es) (Err i) rises within parted =
      let point = parted (comparisons_rise n (e ∷ es) e rises) in (
        within,
        before_take n (e ∷ es) i (λ k d lt in_range. point.0 k d (omega arith) lt),
        after_drop n (e ∷ es) i (λ k d le in_range. earlier _ n (point.1 k d le in_range)),
      )
