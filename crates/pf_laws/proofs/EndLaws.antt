-- The readers and writers of a pipe, counted over descriptions, are the live descriptions and the parked opens.

use Rattle.std.proofs.Common.{◌≡◌, ℕ, zero, suc, ◌+◌, ◌<◌, ◌≤◌, Bool, true, false, List, ◌∷◌, Option, Some, None, refl, sym, ap, ◌∙◌, ◌⊎◌, inl, inr, ⊎_elim, arith, nat_eq, nat_lt, if◌then◌else◌, []}
use Rattle.std.proofs.lemmas.Bool.Decides.{nat_tests}
use Rattle.pf_machine.specs.Numbered.{at, weight, sum_of, keep_from, keep, one_if}
use Rattle.pf_machine.proofs.NumberedLaws.{at-keep, length-keep, same_at}
use Rattle.pf_machine.specs.Queue.{Segment}
use Rattle.pf_machine.specs.Calls.{Call, Opening, Moving}
use Rattle.pf_machine.specs.State.{itself, State, Process, Description}
use Rattle.pf_machine.specs.Counts.{names, readers, writers}
use Rattle.pf_machine.specs.Sweep.{sweep}
use Rattle.pf_laws.specs.Standing.{opens, held, opening_it, of_open, apart_count}

-- what a parked open made, nothing else names
pub record IsApart (ps : List (Option (Process ℕ))) : Type 0 where
  pub alone : (n : ℕ) → (opening_it ps n ≡ 0) ⊎ ((opening_it ps n ≡ 1) × (held ps n ≡ 0))

-- Sums of what tests keep

keep-same : {X : Type 0} (f g : ℕ → Bool) (xs : List (Option X)) → ((k : ℕ) → f k ≡ g k) → keep f xs ≡ keep g xs
keep-same f g xs h =
    same_at (keep f xs) (keep g xs) (length-keep f xs ∙ sym (length-keep g xs)) (λ k. at-keep f xs k ∙ ap (λ b. if b then at xs k else None) (h k) ∙ sym (at-keep g xs k))

module _ {X : Type 0} (h : X → ℕ) where
  split_head : (t a b : Bool) (x : Option X) → one_if t ≡ one_if a + one_if b → weight h (if t then x else None) ≡ weight h (if a then x else None) + weight h (if b then x else None)
  split_head true true true x e = absurd (omega (arith, e))
  split_head true true false x e = omega arith
  split_head true false true x e = omega arith
  split_head true false false x e = absurd (omega (arith, e))
  split_head false true true x e = absurd (omega (arith, e))
  split_head false true false x e = absurd (omega (arith, e))
  split_head false false true x e = absurd (omega (arith, e))
  split_head false false false x e = omega arith

  -- a test that is one of two others or none
  pub sum_of-split : (t a b : ℕ → Bool) (j : ℕ) (xs : List (Option X)) → ((n : ℕ) → one_if (t n) ≡ one_if (a n) + one_if (b n)) → sum_of h (keep_from t j xs) ≡ sum_of h (keep_from a j xs) + sum_of h (keep_from b j xs)
  sum_of-split t a b j [] e = refl
  sum_of-split t a b j (x ∷ xs) e = omega (arith, split_head (t j) (a j) (b j) x (e j), sum_of-split t a b (suc j) xs e)

  pub sum_of-nothing : (j : ℕ) (xs : List (Option X)) → sum_of h (keep_from (λ n. false) j xs) ≡ 0
  sum_of-nothing j [] = refl
  sum_of-nothing j (x ∷ xs) = omega (arith, sum_of-nothing (suc j) xs)

  head_of : (b : Bool) (x : Option X) → b ≡ false → weight h (if b then x else None) ≡ 0
  head_of true x e = absurd (cc)
  head_of false x e = refl

  head_is : (b : Bool) (x : Option X) → b ≡ true → weight h (if b then x else None) ≡ weight h x
  head_is true x e = refl
  head_is false x e = absurd (cc)

  sum_of-before : (m j : ℕ) (xs : List (Option X)) → m < j → sum_of h (keep_from (λ n. nat_eq m n) j xs) ≡ 0
  sum_of-before m j [] l = refl
  sum_of-before m j (x ∷ xs) l =
      let no : nat_eq m j ≡ false = grind (arith, nat_tests) in
      omega (arith, head_of (nat_eq m j) x no, sum_of-before m (suc j) xs (omega (arith, l)))

  sum_of-one_from : (m j r : ℕ) (xs : List (Option X)) → m ≡ j + r → sum_of h (keep_from (λ n. nat_eq m n) j xs) ≡ weight h (at xs r)
  sum_of-one_from m j r [] e = refl
  sum_of-one_from m j zero (x ∷ xs) e =
      let yes : nat_eq m j ≡ true = grind (arith, nat_tests) in
      omega (arith, head_is (nat_eq m j) x yes, sum_of-before m (suc j) xs (omega (arith, e)))
  sum_of-one_from m j (suc r) (x ∷ xs) e =
      let no : nat_eq m j ≡ false = grind (arith, nat_tests) in
      omega (arith, head_of (nat_eq m j) x no, sum_of-one_from m (suc j) r xs (omega (arith, e)))

  -- one number alone
  pub sum_of-one : (m : ℕ) (xs : List (Option X)) → sum_of h (keep (λ n. nat_eq m n) xs) ≡ weight h (at xs m)
  sum_of-one m xs = sum_of-one_from m 0 m xs (omega arith)

-- Parked opens

positive_one : (b : Bool) → nat_lt 0 (one_if b) ≡ b
positive_one true = refl
positive_one false = refl

-- the weight of one parked call's description
one_call : (h : Description ℕ → ℕ) (ds : List (Option (Description ℕ))) (o : Option (Call ℕ)) → sum_of h (keep (λ n. nat_lt 0 (opens n o)) ds) ≡ of_open h ds o
one_call h ds None = sum_of-nothing h 0 ds
one_call h ds (Some (Opening m kept)) = ap (sum_of h) (keep-same (λ n. nat_lt 0 (one_if (nat_eq m n))) (λ n. nat_eq m n) ds (λ n. positive_one (nat_eq m n))) ∙ sum_of-one h m ds
one_call h ds (Some (Moving transfer)) = sum_of-nothing h 0 ds

either : (t a b : ℕ) → t ≡ a + b → t ≤ 1 → one_if (nat_lt 0 t) ≡ one_if (nat_lt 0 a) + one_if (nat_lt 0 b)
either t zero zero e l = let s : t ≡ 0 = omega (arith, e) in ap (λ m. one_if (nat_lt 0 m)) s
either t zero (suc b) e l = let s : t ≡ 1 = omega (arith, e, l) in let r : b ≡ 0 = omega (arith, e, l) in ap (λ m. one_if (nat_lt 0 m)) s ∙ ap (λ m. one_if (nat_lt 0 0) + one_if (nat_lt 0 (suc m))) (sym r)
either t (suc a) zero e l = let s : t ≡ 1 = omega (arith, e, l) in let r : a ≡ 0 = omega (arith, e, l) in ap (λ m. one_if (nat_lt 0 m)) s ∙ ap (λ m. one_if (nat_lt 0 (suc m)) + one_if (nat_lt 0 0)) (sym r)
either t (suc a) (suc b) e l = absurd (omega (arith, e, l))

all_calls : (h : Description ℕ → ℕ) (ds : List (Option (Description ℕ))) (ps : List (Option (Process ℕ))) → ((n : ℕ) → opening_it ps n ≤ 1) → sum_of h (keep (λ n. nat_lt 0 (opening_it ps n)) ds) ≡ sum_of (λ p. of_open h ds p.parked) ps
all_calls h ds [] l = sum_of-nothing h 0 ds
all_calls h ds (None ∷ ps) l =
    ap (sum_of h) (keep-same (λ n. nat_lt 0 (opening_it (None ∷ ps) n)) (λ n. nat_lt 0 (opening_it ps n)) ds (λ n. let e : opening_it (None ∷ ps) n ≡ opening_it ps n = omega arith in ap (λ m. nat_lt 0 m) e))
    ∙ all_calls h ds ps (λ n. omega (arith, l n)) ∙ omega arith
all_calls h ds (Some p ∷ ps) l =
    sum_of-split h (λ n. nat_lt 0 (opening_it (Some p ∷ ps) n)) (λ n. nat_lt 0 (opens n p.parked)) (λ n. nat_lt 0 (opening_it ps n)) 0 ds (λ n. either (opening_it (Some p ∷ ps) n) (opens n p.parked) (opening_it ps n) refl (l n))
    ∙ omega (arith, one_call h ds p.parked, all_calls h ds ps (λ n. omega (arith, l n)))

-- names are descriptors and parked opens
names-are : (ps : List (Option (Process ℕ))) (n : ℕ) → names itself ps n ≡ held ps n + opening_it ps n
names-are [] n = refl
names-are (None ∷ ps) n = omega (arith, names-are ps n)
names-are (Some p ∷ ps) n = omega (arith, names-are ps n)

or_alone : (t a b : ℕ) → t ≡ a + b → (b ≡ 0) ⊎ ((b ≡ 1) × (a ≡ 0)) → one_if (nat_lt 0 t) ≡ one_if (nat_lt 0 a) + one_if (nat_lt 0 b)
or_alone t a b e (inl none) = let s : t ≡ a = omega (arith, e, none) in ap (λ m. one_if (nat_lt 0 m)) s ∙ (let z : one_if (nat_lt 0 b) ≡ 0 = ap (λ m. one_if (nat_lt 0 m)) none in omega (arith, z))
or_alone t a b e (inr one) = either t a b e (omega (arith, e, one.0, one.1))

-- the law: over a swept state, what the descriptions count is what live descriptions and parked opens count
pub counted_apart : (h : Description ℕ → ℕ) (s : State Segment ℕ) → s.descriptions ≡ (sweep itself s).descriptions → IsApart s.processes → sum_of h s.descriptions ≡ apart_count h s
counted_apart h s swept apart =
    let total = sum_of-split h (λ n. nat_lt 0 (names itself s.processes n)) (λ n. nat_lt 0 (held s.processes n)) (λ n. nat_lt 0 (opening_it s.processes n)) 0 s.descriptions (λ n. or_alone (names itself s.processes n) (held s.processes n) (opening_it s.processes n) (names-are s.processes n) (apart.alone n)) in
    let most : (n : ℕ) → opening_it s.processes n ≤ 1 = λ n. ⊎_elim (λ e. omega (arith, e)) (λ e. omega (arith, e.0)) (apart.alone n) in
    ap (sum_of h) swept ∙ total ∙ ap (λ m. sum_of h (keep (λ n. nat_lt 0 (held s.processes n)) s.descriptions) + m) (all_calls h s.descriptions s.processes most)
