-- What namespaces over an array mean, and a step of one of them.

use Rattle.std.proofs.Common.{◌≡◌, ◌≢◌, ℕ, zero, suc, ◌+◌, ◌<◌, ◌≤◌, List, [], ◌∷◌, length, refl, ap, sym, ◌∙◌}
use Rattle.std.proofs.Common.{subst, arith, slice_set, length-set, zero-add, inl, inr}
use Rattle.std.specs.Prelude.{Option, Some, is_some, slice_index, sum}
use Rattle.std.proofs.lemmas.Bool.{cases_eq, cases_lt}
use Rattle.std.proofs.lemmas.List.{get_or_past, get_or-set_other, get_or-set_same}
use Rattle.std.proofs.lemmas.List.Sums.{sum_by-cons}
use Rattle.pf_base.specs.declared.step.Step.{Step}
use Rattle.pf_base.specs.declared.step.Answer.{Answer}
use Rattle.pf_frame.specs.Live.{Live, IsSound}
use Rattle.pf_machine.specs.Machine.{Answers, may_want_memory}
use Rattle.pf_machine.specs.Numbered.{at, sum_of}
use Rattle.pf_machine.proofs.NumberedLaws.{at_past}
use Rattle.pf_tables.specs.Meaning.{Namespace, meaning}
use Rattle.pf_tables.specs.Owns.{Owns}
use Rattle.pf_hub.specs.Covered.{IsRising, IsCovered}
use Rattle.pf_hub.specs.Stepped.{Moved, Stepped}
use Rattle.pf_hub.specs.Tenants.{Tenants, Tenant, nobody, tenant_or, tenant_of, tenant_at, state_at, frames_in}
use Rattle.pf_hub.proofs.TenantLaws.{rising}
use Rattle.pf_plain.specs.Plain.{no_space, space_at, tenants_from, tenants_of}

sum-cons : (x : ℕ) (xs : List ℕ) → sum (x ∷ xs) ≡ x + sum xs
sum-cons x xs = sum_by-cons (λ n. n) x xs

-- frames and namespaces that belong together: what each number sees is sound, and is what the rings there name
pub record Fits (live : ℕ → Live) (ss : List Namespace) : Type 0 where
  pub sound : (n : ℕ) → IsSound (live n)
  pub owned : (n : ℕ) → Owns (live n) (space_at ss n)

module _ (live : ℕ → Live) where
  pub length-tenants_from : (i : ℕ) (ss : List Namespace) → length (tenants_from live i ss) ≡ length ss
  length-tenants_from i [] = refl
  length-tenants_from i (s ∷ ss) = ap suc (length-tenants_from (suc i) ss)

  tenants_from-at : (i k : ℕ) (ss : List Namespace) → k < length ss →
      at (tenants_from live i ss) k ≡ Some (tenant_of (live (i + k)) (space_at ss k))
  tenants_from-at i k [] h = absurd (omega arith)
  tenants_from-at i zero (s ∷ ss) h = ap (λ j. Some (tenant_of (live j) s)) (omega arith)
  tenants_from-at i (suc k) (s ∷ ss) h =
      tenants_from-at (suc i) k ss (omega arith) ∙ ap (λ j. Some (tenant_of (live j) (space_at ss k))) (omega arith)

  pub stands : (k : ℕ) (ss : List Namespace) → k < length ss →
      at (tenants_of live ss) k ≡ Some (tenant_of (live k) (space_at ss k))
  stands k ss h = tenants_from-at 0 k ss h ∙ ap (λ j. Some (tenant_of (live j) (space_at ss k))) (zero-add k)

  -- the sum of a number of each namespace
  sum-tenants_from : (h : Tenant → ℕ) (i : ℕ) (ss : List Namespace) (xs : List ℕ) → length ss ≡ length xs →
      ((k : ℕ) → h (tenant_of (live (i + k)) (space_at ss k)) ≡ slice_index xs k) →
      sum_of h (tenants_from live i ss) ≡ sum xs
  sum-tenants_from h i [] [] l each = refl
  sum-tenants_from h i [] (x ∷ xs) l each = absurd (omega arith)
  sum-tenants_from h i (s ∷ ss) [] l each = absurd (omega arith)
  sum-tenants_from h i (s ∷ ss) (x ∷ xs) l each =
      let first : i ≡ i + 0 = omega arith in
      let next : (k : ℕ) → suc i + k ≡ i + suc k = λ k. omega arith in
      let here : h (tenant_of (live i) s) ≡ x = ap (λ n. h (tenant_of (live n) s)) first ∙ each 0 in
      let rest = sum-tenants_from h (suc i) ss xs (omega arith)
      (λ k. ap (λ n. h (tenant_of (live n) (space_at ss k))) (next k) ∙ each (suc k)) in
      omega (arith, here, rest, sum-cons x xs)

  pub sum-tenants : (h : Tenant → ℕ) (ss : List Namespace) (xs : List ℕ) → length ss ≡ length xs →
      ((k : ℕ) → h (tenant_of (live k) (space_at ss k)) ≡ slice_index xs k) → sum_of h (tenants_of live ss) ≡ sum xs
  sum-tenants h ss xs l each =
      sum-tenants_from h 0 ss xs l (λ k. ap (λ n. h (tenant_of (live n) (space_at ss k))) (zero-add k) ∙ each k)

  module _ (ss : List Namespace) (fits : Fits live ss) where
    -- no namespace holds no frame
    none_past : (k : ℕ) → length ss ≤ k → (live k).held ≡ 0
    none_past k past =
        let none : space_at ss k ≡ no_space = get_or_past ss k no_space past in
        let owns : Owns (live k) no_space = subst (Owns (live k)) none (fits.owned k) in
        let rises : IsRising (tenant_of (live k) no_space) = rising (live k) no_space (fits.sound k) owns in
        omega (arith, rises.frames, rises.slots, rises.pages)

    -- the namespace of a number
    pub tenants-at : (k : ℕ) → tenant_or (at (tenants_of live ss) k) ≡ tenant_of (live k) (space_at ss k)
    tenants-at k = elim (cases_lt k (length ss)) [
      | inl h ↦ ap tenant_or (stands k ss h)
      | inr h ↦ ap tenant_or (at_past (tenants_of live ss) k (omega (arith, length-tenants_from 0 ss)))
          ∙ (λ i. record { limits = nobody.limits; state = nobody.state; held = sym (none_past k h) i })
          ∙ ap (tenant_of (live k)) (sym (get_or_past ss k no_space h))
    ]

    -- each is rising
    pub rises : (k : ℕ) → IsRising (tenant_or (at (tenants_of live ss) k))
    rises k = subst IsRising (sym (tenants-at k)) (rising (live k) (space_at ss k) (fits.sound k) (fits.owned k))

-- A step

module _ (f g : ℕ → Live) (ss : List Namespace) {n : ℕ} {s : Namespace} {step : Step} {a : Answer}
    (here : n < length ss) (others : (k : ℕ) → k ≢ n → g k ≡ f k)
    (moved : Moved (f n) (g n) (space_at ss n) s step a) where
  own_after : space_at (slice_set ss n s) n ≡ s
  own_after = get_or-set_same ss n s no_space here

  other_after : (k : ℕ) → k ≢ n → space_at (slice_set ss n s) k ≡ space_at ss k
  other_after k ne = get_or-set_other ss n k s no_space ne

  -- each has its own frames again
  pub owned_after : ((k : ℕ) → Owns (f k) (space_at ss k)) → (k : ℕ) → Owns (g k) (space_at (slice_set ss n s) k)
  owned_after owned k = elim (cases_eq k n) [
    | inl e ↦ subst (λ x. Owns (g x) (space_at (slice_set ss n s) x)) (sym e)
        (subst (Owns (g n)) (sym own_after) moved.owns)
    | inr ne ↦ subst (λ (x : Live). Owns x (space_at (slice_set ss n s) k)) (sym (others k ne))
        (subst (Owns (f k)) (sym (other_after k ne)) (owned k))
  ]

  -- so it is a step of the namespaces, where no frame comes or goes
  module _ (free left : ℕ) (before : Fits f ss) (after : Fits g (slice_set ss n s)) where
    abbrev old : Tenants
    old = record { tenants = tenants_of f ss; free = free }

    abbrev new : Tenants
    new = record { tenants = tenants_of g (slice_set ss n s); free = left }

    many : length (slice_set ss n s) ≡ length ss
    many = length-set ss n s

    was : tenant_at old n ≡ tenant_of (f n) (space_at ss n)
    was = tenants-at f ss before n

    is : tenant_at new n ≡ tenant_of (g n) s
    is = tenants-at g (slice_set ss n s) after n ∙ ap (tenant_of (g n)) own_after

    beside : (k : ℕ) → k ≢ n → at new.tenants k ≡ at old.tenants k
    beside k ne = elim (cases_lt k (length ss)) [
      | inl h ↦
          stands g k (slice_set ss n s) (omega (arith, many, h))
          ∙ (λ i. Some (tenant_of (others k ne i) (other_after k ne i)))
          ∙ sym (stands f k ss h)
      | inr h ↦
          at_past new.tenants k (omega (arith, length-tenants_from g 0 (slice_set ss n s), many, h))
          ∙ sym (at_past old.tenants k (omega (arith, length-tenants_from f 0 ss, h)))
    ]

    pub stepped : frames_in new ≡ frames_in old → IsCovered new → Stepped old new n step a
    stepped frames covered = record {
      number = length-tenants_from g 0 (slice_set ss n s) ∙ many ∙ sym (length-tenants_from f 0 ss);
      lives = ap (λ (o : Option Tenant). is_some o) (stands g n (slice_set ss n s) (omega (arith, many, here)));
      frames = frames;
      limits = ap (λ (x : Tenant). x.limits) is ∙ moved.limits ∙ ap (λ (x : Tenant). x.limits) (sym was);
      answers =
          subst (λ (x : Tenant). Answers x.limits a x.state step (state_at new n)) (sym was)
          (subst (λ (x : Tenant). Answers (space_at ss n).limits a (meaning (f n) (space_at ss n).state) step x.state)
          (sym is) moved.answers);
      others = beside;
      succeeds = λ quiet. moved.succeeds (ap (λ (x : Tenant). may_want_memory x.limits x.state step) (sym was) ∙ quiet);
      covered = covered;
    }
