-- What an Exit changes: one place of a list, twice, and a process that lets its descriptors go.

use Rattle.std.proofs.Common.{◌≡◌, ℕ, ◌-◌, ◌<◌, ◌≤◌, List, length, set, Option, Some, None, refl, ap, ◌∙◌, inl, inr, arith, nat_le, if◌then◌else◌, zero, suc, ◌∷◌, []}
use Rattle.std.proofs.lemmas.Bool.{cases_lt, lt-leb}
use Rattle.std.proofs.lemmas.List.{set_past}
use Rattle.pf_machine.specs.Numbered.{at, change_at, sum_of, weight, keep}
use Rattle.pf_machine.proofs.NumberedLaws.{at_past, length-keep, at-keep, sum_of-set}
use Rattle.pf_machine.specs.State.{Process}
use Rattle.pf_machine.specs.Descriptors.{without_first}

-- Lists without their first

module _ {X : Type 0} where
  at_dropped : (n : ℕ) (xs : List (Option X)) (k : ℕ) → k < n → at (keep (λ fd. nat_le n fd) xs) k ≡ None
  at_dropped n xs k h = at-keep (λ fd. nat_le n fd) xs k ∙ ap (λ b. if b then at xs k else None) (lt-leb n k h)

  -- a sum in which one thing falls
  pub sum_of-falls : (h : X → ℕ) (xs : List (Option X)) (i : ℕ) (y : Option X)
      → weight h y ≤ weight h (at xs i) → sum_of h (set xs i y) ≤ sum_of h xs
  sum_of-falls h xs i y less = elim (cases_lt i (length xs)) [
    | inl l ↦ omega (arith, less, sum_of-set h xs i y l)
    | inr past ↦ omega (arith, ap (sum_of h) (set_past xs i y past))
  ]

  -- two changes of one place
  pub change-change : (f g h : X → X) (xs : List (Option X)) (i : ℕ)
      → ((x : X) → f (g x) ≡ h x) → change_at f (change_at g xs i) i ≡ change_at h xs i
  change-change f g h [] i same = refl
  change-change f g h (None ∷ xs) zero same = refl
  change-change f g h (Some x ∷ xs) zero same = ap (λ y. Some y ∷ xs) (same x)
  change-change f g h (x ∷ xs) (suc i) same = ap (λ ys. x ∷ ys) (change-change f g h xs i same)

-- a process without its first n descriptors has none where it had n at most
pub bare : {N : Type 0} (n : ℕ) (p : Process N) → length p.descriptors ≤ n → (fd : ℕ)
    → at (without_first n p).descriptors fd ≡ None
bare n p short fd = elim (cases_lt fd n) [
  | inl below ↦ at_dropped n p.descriptors fd below
  | inr past ↦
      at_past (without_first n p).descriptors fd
      (omega (arith, length-keep (λ fd. nat_le n fd) p.descriptors, short, past))
]
