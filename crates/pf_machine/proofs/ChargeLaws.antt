-- How the pages that users are charged with, and those of all, move where something is added, goes, or has another
-- capacity: laws of sums by owner, over pipes or whatever stands for them.

use Rattle.std.proofs.Common.{◌≡◌, ℕ, ◌+◌, ◌≤◌, Bool, true, false, List, [], ◌∷◌, ◌++◌, set, Option, Some, None, refl, sym, ap, ◌∙◌, arith, nat_eq, if◌then◌else◌}
use Rattle.std.proofs.lemmas.Bool.{eq-eqb}
use Rattle.pf_machine.specs.Numbered.{at, weight, sum_of}
use Rattle.pf_machine.proofs.NumberedLaws.{at_within, sum_of-set, sum_of-push, weight-le-sum_of, sum_of-le}

-- a number where the test passes, and else nothing
if_le : (b : Bool) (n : ℕ) → (if b then n else 0) ≤ n
if_le true n = omega arith
if_le false n = omega arith

if_add : (b : Bool) (k m n : ℕ) → k ≡ m + n → (if b then k else 0) ≡ (if b then m else 0) + (if b then n else 0)
if_add true k m n e = e
if_add false k m n e = refl

module _ {X : Type 0} (owner capacity : X → ℕ) where
  -- what one thing is charged to a user
  abbrev pub share : ℕ → X → ℕ
  share u x = if nat_eq (owner x) u then capacity x else 0

  -- what all things are charged to a user
  abbrev pub charged_in : List (Option X) → ℕ → ℕ
  charged_in xs u = sum_of (share u) xs

  -- what all things are charged to all users
  abbrev pub total_in : List (Option X) → ℕ
  total_in xs = sum_of capacity xs

  pub charged-le-total : (xs : List (Option X)) (u : ℕ) → charged_in xs u ≤ total_in xs
  charged-le-total xs u = sum_of-le (share u) capacity xs (λ k x e. if_le (nat_eq (owner x) u) (capacity x))

  -- a thing is charged to its owner
  pub capacity-le-charged : (xs : List (Option X)) (n : ℕ) (x : X) → at xs n ≡ Some x → capacity x ≤ charged_in xs (owner x)
  capacity-le-charged xs n x stands =
      omega (arith, weight-le-sum_of (share (owner x)) xs n, ap (weight (share (owner x))) stands, ap (λ b. if b then capacity x else 0) (eq-eqb (owner x) (owner x) refl))

  -- one more
  pub charged-push : (xs : List (Option X)) (x : X) (u : ℕ) → charged_in (xs ++ Some x ∷ []) u ≡ charged_in xs u + (if nat_eq (owner x) u then capacity x else 0)
  charged-push xs x u = sum_of-push (share u) xs (Some x)

  pub total-push : (xs : List (Option X)) (x : X) → total_in (xs ++ Some x ∷ []) ≡ total_in xs + capacity x
  total-push xs x = sum_of-push capacity xs (Some x)

  module _ (xs : List (Option X)) (n : ℕ) (x : X) (stands : at xs n ≡ Some x) where
    -- one less
    pub charged-clear : (u : ℕ) → charged_in xs u ≡ charged_in (set xs n None) u + (if nat_eq (owner x) u then capacity x else 0)
    charged-clear u = omega (arith, sum_of-set (share u) xs n None (at_within xs n x stands), ap (weight (share u)) stands)

    pub total-clear : total_in xs ≡ total_in (set xs n None) + capacity x
    total-clear = omega (arith, sum_of-set capacity xs n None (at_within xs n x stands), ap (weight capacity) stands)

    -- one has so many pages more
    pub charged-grown : (y : X) (pages : ℕ) → owner y ≡ owner x → capacity y ≡ capacity x + pages → (u : ℕ) → charged_in (set xs n (Some y)) u ≡ charged_in xs u + (if nat_eq (owner x) u then pages else 0)
    charged-grown y pages owned more u =
        let shares : share u y ≡ share u x + (if nat_eq (owner x) u then pages else 0) =
        ap (λ (o : ℕ). if nat_eq o u then capacity y else 0) owned ∙ if_add (nat_eq (owner x) u) (capacity y) (capacity x) pages more in
        omega (arith, sum_of-set (share u) xs n (Some y) (at_within xs n x stands), ap (weight (share u)) stands, shares)

    pub total-grown : (y : X) (pages : ℕ) → capacity y ≡ capacity x + pages → total_in (set xs n (Some y)) ≡ total_in xs + pages
    total-grown y pages more = omega (arith, sum_of-set capacity xs n (Some y) (at_within xs n x stands), ap (weight capacity) stands, more)

    -- one has so many pages less
    pub charged-shrunk : (y : X) (pages : ℕ) → owner y ≡ owner x → capacity x ≡ capacity y + pages → (u : ℕ) → charged_in xs u ≡ charged_in (set xs n (Some y)) u + (if nat_eq (owner x) u then pages else 0)
    charged-shrunk y pages owned less u =
        let shares : share u x ≡ share u y + (if nat_eq (owner x) u then pages else 0) =
        if_add (nat_eq (owner x) u) (capacity x) (capacity y) pages less
        ∙ ap (λ (o : ℕ). (if nat_eq o u then capacity y else 0) + (if nat_eq (owner x) u then pages else 0)) (sym owned) in
        omega (arith, sum_of-set (share u) xs n (Some y) (at_within xs n x stands), ap (weight (share u)) stands, shares)

    pub total-shrunk : (y : X) (pages : ℕ) → capacity x ≡ capacity y + pages → total_in xs ≡ total_in (set xs n (Some y)) + pages
    total-shrunk y pages less = omega (arith, sum_of-set capacity xs n (Some y) (at_within xs n x stands), ap (weight capacity) stands, less)
