-- Laws of things by number: what stands where after a change, what a sum is after it, and when a list is what a test keeps.

use Rattle.std.proofs.Common.{◌≡◌, ◌≢◌, ℕ, zero, suc, ◌+◌, ◌<◌, ◌≤◌, Bool, true, false, List, ◌∷◌, ◌++◌, length, map, set, Option, Some, None, refl, sym, ap, ◌∙◌, arith, if◌then◌else◌, []}
use Rattle.std.specs.Option.{option_map}
use Rattle.std.proofs.lemmas.List.{get_or-set_same, get_or-set_other, get_or_past, get_or_append_left, get_or_push}
use Rattle.pf_machine.specs.Numbered.{at, weight, sum_of, keep_from, keep, first_free}

module _ {X : Type 0} where
  -- What stands where

  pub at-put_same : (xs : List (Option X)) (i : ℕ) (y : Option X) → i < length xs → at (set xs i y) i ≡ y
  at-put_same xs i y p = get_or-set_same xs i y None p

  pub at-put_other : (xs : List (Option X)) (i j : ℕ) (y : Option X) → j ≢ i → at (set xs i y) j ≡ at xs j
  at-put_other xs i j y p = get_or-set_other xs i j y None p

  pub at_past : (xs : List (Option X)) (i : ℕ) → length xs ≤ i → at xs i ≡ None
  at_past xs i p = get_or_past xs i None p

  pub at_within : (xs : List (Option X)) (i : ℕ) (x : X) → at xs i ≡ Some x → i < length xs
  at_within [] i x p = absurd (cc)
  at_within (y ∷ xs) zero x p = omega arith
  at_within (y ∷ xs) (suc i) x p = omega (arith, at_within xs i x p)

  pub at-push_old : (xs : List (Option X)) (y : Option X) (i : ℕ) → i < length xs → at (xs ++ y ∷ []) i ≡ at xs i
  at-push_old xs y i p = get_or_append_left xs (y ∷ []) None i p

  pub at-push_new : (xs : List (Option X)) (y : Option X) → at (xs ++ y ∷ []) (length xs) ≡ y
  at-push_new xs y = get_or_push xs y None (length xs) refl

  pub same_at : (xs ys : List (Option X)) → length xs ≡ length ys → ((k : ℕ) → at xs k ≡ at ys k) → xs ≡ ys
  same_at [] [] e h = refl
  same_at [] (y ∷ ys) e h = absurd (omega arith)
  same_at (x ∷ xs) [] e h = absurd (omega arith)
  same_at (x ∷ xs) (y ∷ ys) e h = let first : x ≡ y = h 0 in let rest = same_at xs ys (omega arith) (λ k. h (suc k)) in cc

  -- Sums

  pub sum_of-set : (h : X → ℕ) (xs : List (Option X)) (i : ℕ) (y : Option X) → i < length xs → sum_of h (set xs i y) + weight h (at xs i) ≡ sum_of h xs + weight h y
  sum_of-set h [] i y p = absurd (omega arith)
  sum_of-set h (x ∷ xs) zero y p = omega arith
  sum_of-set h (x ∷ xs) (suc i) y p = omega (arith, sum_of-set h xs i y (omega arith))

  pub sum_of-push : (h : X → ℕ) (xs : List (Option X)) (y : Option X) → sum_of h (xs ++ y ∷ []) ≡ sum_of h xs + weight h y
  sum_of-push h [] y = omega arith
  sum_of-push h (x ∷ xs) y = omega (arith, sum_of-push h xs y)

  pub weight-le-sum_of : (h : X → ℕ) (xs : List (Option X)) (i : ℕ) → weight h (at xs i) ≤ sum_of h xs
  weight-le-sum_of h [] i = omega arith
  weight-le-sum_of h (x ∷ xs) zero = omega arith
  weight-le-sum_of h (x ∷ xs) (suc i) = omega (arith, weight-le-sum_of h xs i)

  -- a sum of weights that are 0 where anything stands
  pub sum_of-none : (h : X → ℕ) (xs : List (Option X)) → ((k : ℕ) (x : X) → at xs k ≡ Some x → h x ≡ 0) → sum_of h xs ≡ 0
  sum_of-none h [] p = refl
  sum_of-none h (None ∷ xs) p = omega (arith, sum_of-none h xs (λ k x e. p (suc k) x e))
  sum_of-none h (Some x ∷ xs) p = omega (arith, p 0 x refl, sum_of-none h xs (λ k x e. p (suc k) x e))

  -- one weight is at most two others wherever anything stands
  pub sum_of-le-two : (h f g : X → ℕ) (xs : List (Option X)) → ((k : ℕ) (x : X) → at xs k ≡ Some x → h x ≤ f x + g x) → sum_of h xs ≤ sum_of f xs + sum_of g xs
  sum_of-le-two h f g [] p = omega arith
  sum_of-le-two h f g (None ∷ xs) p = omega (arith, sum_of-le-two h f g xs (λ k x e. p (suc k) x e))
  sum_of-le-two h f g (Some x ∷ xs) p = omega (arith, p 0 x refl, sum_of-le-two h f g xs (λ k x e. p (suc k) x e))

  pub sum_of-le : (h f : X → ℕ) (xs : List (Option X)) → ((k : ℕ) (x : X) → at xs k ≡ Some x → h x ≤ f x) → sum_of h xs ≤ sum_of f xs
  sum_of-le h f [] p = omega arith
  sum_of-le h f (None ∷ xs) p = omega (arith, sum_of-le h f xs (λ k x e. p (suc k) x e))
  sum_of-le h f (Some x ∷ xs) p = omega (arith, p 0 x refl, sum_of-le h f xs (λ k x e. p (suc k) x e))

  -- What a test keeps

  pub length-keep_from : (test : ℕ → Bool) (n : ℕ) (xs : List (Option X)) → length (keep_from test n xs) ≡ length xs
  length-keep_from test n [] = refl
  length-keep_from test n (x ∷ xs) = omega (arith, length-keep_from test (suc n) xs)

  pub length-keep : (test : ℕ → Bool) (xs : List (Option X)) → length (keep test xs) ≡ length xs
  length-keep test xs = length-keep_from test 0 xs

  nothing_past : (b : Bool) → ◌≡◌ {A = Option X} None (if b then None else None)
  nothing_past true = refl
  nothing_past false = refl

  at-keep_from : (test : ℕ → Bool) (n : ℕ) (xs : List (Option X)) (k : ℕ) → at (keep_from test n xs) k ≡ (if test (n + k) then at xs k else None)
  at-keep_from test n [] k = nothing_past (test (n + k))
  at-keep_from test n (x ∷ xs) zero = let e : n + 0 ≡ n = omega arith in ap (λ m. if test m then x else None) (sym e)
  at-keep_from test n (x ∷ xs) (suc k) = let e : suc n + k ≡ n + suc k = omega arith in at-keep_from test (suc n) xs k ∙ ap (λ m. if test m then at xs k else None) e

  pub at-keep : (test : ℕ → Bool) (xs : List (Option X)) (k : ℕ) → at (keep test xs) k ≡ (if test k then at xs k else None)
  at-keep test xs k = let e : 0 + k ≡ k = omega arith in at-keep_from test 0 xs k ∙ ap (λ m. if test m then at xs k else None) e

  -- the same where the test passes, and nothing elsewhere
  pub is_kept : (test : ℕ → Bool) (old new : List (Option X)) → length new ≡ length old → ((k : ℕ) → test k ≡ true → at new k ≡ at old k) → ((k : ℕ) → test k ≡ false → at new k ≡ None) → new ≡ keep test old
  is_kept test old new e stays goes = same_at new (keep test old) (e ∙ sym (length-keep test old)) (λ k. by_test k ∙ sym (at-keep test old k))
    where
      by_test : (k : ℕ) → at new k ≡ (if test k then at old k else None)
      by_test k = elim (test k) as (λ b. test k ≡ b → at new k ≡ (if b then at old k else None)) [ true ↦ stays k | false ↦ goes k ] refl

  sum_of-keep_from : (h : X → ℕ) (test : ℕ → Bool) (n : ℕ) (xs : List (Option X)) → sum_of h (keep_from test n xs) ≤ sum_of h xs
  sum_of-keep_from h test n [] = omega arith
  sum_of-keep_from h test n (x ∷ xs) = omega (arith, kept_weight (test n) x, sum_of-keep_from h test (suc n) xs)
    where
      kept_weight : (b : Bool) (o : Option X) → weight h (if b then o else None) ≤ weight h o
      kept_weight true o = omega arith
      kept_weight false o = omega arith

  pub sum_of-keep : (h : X → ℕ) (test : ℕ → Bool) (xs : List (Option X)) → sum_of h (keep test xs) ≤ sum_of h xs
  sum_of-keep h test xs = sum_of-keep_from h test 0 xs

  -- The lowest free number

  pub at-first_free : (xs : List (Option X)) → at xs (first_free xs) ≡ None
  at-first_free [] = refl
  at-first_free (None ∷ xs) = refl
  at-first_free (Some x ∷ xs) = at-first_free xs

  pub first_free-is : (xs : List (Option X)) (i : ℕ) → i ≤ length xs → at xs i ≡ None → ((j : ℕ) → j < i → at xs j ≢ None) → first_free xs ≡ i
  first_free-is [] i p e h = omega arith
  first_free-is (None ∷ xs) zero p e h = refl
  first_free-is (None ∷ xs) (suc i) p e h = absurd (h 0 (omega arith) refl)
  first_free-is (Some x ∷ xs) zero p e h = absurd (cc)
  first_free-is (Some x ∷ xs) (suc i) p e h = omega (arith, first_free-is xs i (omega arith) e (λ j l. h (suc j) (omega arith)))

pub sum_of-map : {X Y : Type 0} (f : X → Y) (h : Y → ℕ) (xs : List (Option X)) → sum_of h (map (option_map f) xs) ≡ sum_of (λ x. h (f x)) xs
sum_of-map f h [] = refl
sum_of-map f h (None ∷ xs) = omega (arith, sum_of-map f h xs)
sum_of-map f h (Some x ∷ xs) = omega (arith, sum_of-map f h xs)

pub at-map : {X Y : Type 0} (f : X → Y) (xs : List (Option X)) (k : ℕ) → at (map (option_map f) xs) k ≡ option_map f (at xs k)
at-map f [] k = refl
at-map f (x ∷ xs) zero = refl
at-map f (x ∷ xs) (suc k) = at-map f xs k

pub first_free-map : {X Y : Type 0} (f : X → Y) (xs : List (Option X)) → first_free (map (option_map f) xs) ≡ first_free xs
first_free-map f [] = refl
first_free-map f (None ∷ xs) = refl
first_free-map f (Some x ∷ xs) = ap suc (first_free-map f xs)
