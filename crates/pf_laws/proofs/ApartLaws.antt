-- What a parked open made, nothing else names: what a change of one process leaves of that.

use Rattle.std.proofs.Common.{◌≡◌, ◌≢◌, ℕ, zero, suc, ◌+◌, ◌<◌, ◌≤◌, Bool, true, false, List, [], ◌∷◌, length, set, Option, Some, None, refl, sym, ap, ◌∙◌, subst, ◌⊎◌, inl, inr, ⊎_elim, arith, nat_eq}
use Rattle.std.proofs.lemmas.Bool.{eqb-true, cases_lt}
use Rattle.pf_machine.specs.Numbered.{at, put_at, clear_at, weight, one_if}
use Rattle.pf_machine.proofs.NumberedLaws.{sum_of-set, weight-le-sum_of}
use Rattle.pf_machine.specs.Calls.{Call, Opening}
use Rattle.pf_machine.specs.State.{itself, Process, with_descriptor, waiting}
use Rattle.pf_machine.specs.Counts.{named_in}
use Rattle.pf_laws.specs.Standing.{opens, held, opening_it}
use Rattle.pf_machine.specs.Descriptors.{without_descriptor}

abbrev pub Alone : ℕ → ℕ → Type 0
Alone o h = (o ≡ 0) ⊎ ((o ≡ 1) × (h ≡ 0))

-- of processes, where so many descriptions were drawn
pub record Sound (ps : List (Option (Process ℕ))) (d : ℕ) : Type 0 where
  pub alone : (n : ℕ) → Alone (opening_it ps n) (held ps n)
  pub past : (n : ℕ) → d ≤ n → (opening_it ps n ≡ 0) × (held ps n ≡ 0)

-- what the process of a place names, and what its parked open made
abbrev pub names_by : ℕ → Option (Process ℕ) → ℕ
names_by n o = weight (λ p. named_in itself n p.descriptors) o

abbrev pub opens_by : ℕ → Option (Process ℕ) → ℕ
opens_by n o = weight (λ p. opens n p.parked) o

set_none : {X : Type 0} (xs : List X) (k : ℕ) (y : X) → length xs ≤ k → set xs k y ≡ xs
set_none [] k y l = refl
set_none (x ∷ xs) zero y l = absurd (omega arith)
set_none (x ∷ xs) (suc k) y l = ap (λ ys. x ∷ ys) (set_none xs k y (omega (arith, l)))

module _ (ps : List (Option (Process ℕ))) (d : ℕ) (is : Sound ps d) where
  -- a number that was drawn before, or a new one that nothing else names
  abbrev Fits : ℕ → Option (Process ℕ) → Option (Process ℕ) → Type 0
  Fits n old new = ((opens_by n new ≤ opens_by n old) × (held ps n ≡ 0 → names_by n new ≡ 0)) ⊎ (((d ≤ n) × Alone (opens_by n new) (names_by n new)) ⊎ (opens_by n new + 1 ≤ opens_by n old))

  pub sound-set : (k : ℕ) (y : Option (Process ℕ)) (e : ℕ) → d ≤ e → ((n : ℕ) → Fits n (at ps k) y) → ((n : ℕ) → e ≤ n → (opens_by n y ≡ 0) × (names_by n y ≡ 0)) → Sound (set ps k y) e
  sound-set k y e more fits past = ⊎_elim within beyond (cases_lt k (length ps))
    where
      beyond : length ps ≤ k → Sound (set ps k y) e
      beyond l = subst (λ qs. Sound qs e) (sym (set_none ps k y l)) (record { alone = is.alone; past = λ n b. is.past n (omega (arith, more, b)) })

      within : k < length ps → Sound (set ps k y) e
      within l = record { alone = alone; past = gone }
        where
          opened : (n : ℕ) → opening_it (set ps k y) n + opens_by n (at ps k) ≡ opening_it ps n + opens_by n y
          opened n = sum_of-set (λ p. opens n p.parked) ps k y l

          named : (n : ℕ) → held (set ps k y) n + names_by n (at ps k) ≡ held ps n + names_by n y
          named n = sum_of-set (λ p. named_in itself n p.descriptors) ps k y l

          had : (n : ℕ) → opens_by n (at ps k) ≤ opening_it ps n
          had n = weight-le-sum_of (λ p. opens n p.parked) ps k

          knew : (n : ℕ) → names_by n (at ps k) ≤ held ps n
          knew n = weight-le-sum_of (λ p. named_in itself n p.descriptors) ps k

          gone : (n : ℕ) → e ≤ n → (opening_it (set ps k y) n ≡ 0) × (held (set ps k y) n ≡ 0)
          gone n b =
              let was = is.past n (omega (arith, more, b)) in
              let new = past n b in
              (omega (arith, opened n, had n, was.0, new.0), omega (arith, named n, knew n, was.1, new.1))

          alone : (n : ℕ) → Alone (opening_it (set ps k y) n) (held (set ps k y) n)
          alone n = ⊎_elim
              (λ f. ⊎_elim
              (λ none. inl (omega (arith, opened n, had n, none, f.0)))
              (λ one.
              let still : held (set ps k y) n ≡ 0 = omega (arith, named n, knew n, one.1, f.1 one.1) in
              ⊎_elim (λ small. inl (omega (arith, small))) (λ big. inr (omega (arith, opened n, had n, one.0, f.0, big), still)) (cases_lt (opening_it (set ps k y) n) 1))
              (is.alone n))
              (λ g. ⊎_elim
              (λ f.
              let was = is.past n f.0 in
              let o : opening_it (set ps k y) n ≡ opens_by n y = omega (arith, opened n, had n, was.0) in
              let h : held (set ps k y) n ≡ names_by n y = omega (arith, named n, knew n, was.1) in
              ⊎_elim (λ none. inl (o ∙ none)) (λ one. inr (o ∙ one.0, h ∙ one.1)) f.1)
              (λ f. inl (⊎_elim (λ none. absurd (omega (arith, f, had n, none))) (λ one. omega (arith, opened n, had n, one.0, f)) (is.alone n)))
              g)
              (fits n)

  -- a process that names and opens nothing that is new
  pub sound-tame : (k : ℕ) (y : Option (Process ℕ)) → ((n : ℕ) → opens_by n y ≤ opens_by n (at ps k)) → ((n : ℕ) → held ps n ≡ 0 → names_by n y ≡ 0) → Sound (set ps k y) d
  sound-tame k y less none = sound-set k y d (omega arith) (λ n. inl (less n, none n)) (λ n b.
      let was = is.past n b in (omega (arith, less n, weight-le-sum_of (λ p. opens n p.parked) ps k, was.0), none n was.1))

  -- who stands names what is held
  stands-names : (k : ℕ) (p : Process ℕ) → at ps k ≡ Some p → (n : ℕ) → held ps n ≡ 0 → named_in itself n p.descriptors ≡ 0
  stands-names k p e n none = omega (arith, none, weight-le-sum_of (λ p. named_in itself n p.descriptors) ps k, ap (names_by n) e)

  -- Exit
  pub sound-clear : (k : ℕ) → Sound (clear_at ps k) d
  sound-clear k = sound-tame k None (λ n. omega arith) (λ n e. refl)

  -- Fork, of a process that waits in no call
  pub sound-copy : (j k : ℕ) (p : Process ℕ) → at ps j ≡ Some p → p.parked ≡ None → Sound (put_at ps k p) d
  sound-copy j k p e free = sound-tame k (Some p) (λ n. omega (arith, ap (opens n) free)) (λ n none. stands-names j p e n none)

  named-set : (n : ℕ) (fds : List (Option ℕ)) (fd : ℕ) (y : Option ℕ) → named_in itself n (set fds fd y) ≤ named_in itself n fds + weight (λ m. one_if (nat_eq m n)) y
  named-set n fds fd y = ⊎_elim
      (λ l. omega (arith, sum_of-set (λ m. one_if (nat_eq m n)) fds fd y l))
      (λ l. omega (arith, ap (named_in itself n) (set_none fds fd y l)))
      (cases_lt fd (length fds))

  -- Close
  pub sound-close : (k fd : ℕ) (p : Process ℕ) → at ps k ≡ Some p → Sound (put_at ps k (without_descriptor fd p)) d
  sound-close k fd p e = sound-tame k (Some (without_descriptor fd p)) (λ n. omega (arith, ap (opens_by n) e))
      (λ n none. omega (arith, stands-names k p e n none, named-set n p.descriptors fd None))

  -- Dup
  pub sound-dup : (k fd new m : ℕ) (p : Process ℕ) → at ps k ≡ Some p → at p.descriptors fd ≡ Some m → Sound (put_at ps k (with_descriptor new m p)) d
  sound-dup k fd new m p e f = sound-tame k (Some (with_descriptor new m p)) (λ n. omega (arith, ap (opens_by n) e)) (λ n none.
      let less = weight-le-sum_of (λ m. one_if (nat_eq m n)) p.descriptors fd in
      omega (arith, stands-names k p e n none, named-set n p.descriptors new (Some m), less, ap (weight (λ m. one_if (nat_eq m n))) f))

  -- a call parks that is no open, or an open has its descriptor or its end: what it waits in opens no more than before
  pub sound-wait : (k : ℕ) (o : Option (Call ℕ)) (p : Process ℕ) → at ps k ≡ Some p → ((n : ℕ) → opens n o ≤ opens n p.parked) → Sound (put_at ps k (waiting o p)) d
  sound-wait k o p e less = sound-tame k (Some (waiting o p)) (λ n. omega (arith, less n, ap (opens_by n) e)) (λ n none. stands-names k p e n none)

  -- an open parks: its description is new
  pub sound-park : (k kept : ℕ) (p : Process ℕ) → at ps k ≡ Some p → Sound (put_at ps k (waiting (Some (Opening d kept)) p)) (d + 1)
  sound-park k kept p e = sound-set k (Some (waiting (Some (Opening d kept)) p)) (d + 1) (omega arith) fits past
    where
      one : (n : ℕ) (b : Bool) → nat_eq d n ≡ b → Fits n (at ps k) (Some (waiting (Some (Opening d kept)) p))
      one n true t =
          let same : d ≡ n = eqb-true d n t in
          let none : named_in itself n p.descriptors ≡ 0 = stands-names k p e n (is.past n (omega (arith, same))).1 in
          inr (inl (omega (arith, same), inr (omega (arith, ap one_if t), omega (arith, none))))
      one n false t = inl (omega (arith, ap one_if t), λ none. omega (arith, stands-names k p e n none))

      fits : (n : ℕ) → Fits n (at ps k) (Some (waiting (Some (Opening d kept)) p))
      fits n = one n (nat_eq d n) refl

      gone : (n : ℕ) (b : Bool) → nat_eq d n ≡ b → d + 1 ≤ n → one_if (nat_eq d n) ≡ 0
      gone n true t l = absurd (let same : d ≡ n = eqb-true d n t in omega (arith, same, l))
      gone n false t l = ap one_if t

      past : (n : ℕ) → d + 1 ≤ n → (opens_by n (Some (waiting (Some (Opening d kept)) p)) ≡ 0) × (names_by n (Some (waiting (Some (Opening d kept)) p)) ≡ 0)
      past n l = (omega (arith, gone n (nat_eq d n) refl l), omega (arith, stands-names k p e n (is.past n (omega (arith, l))).1))

  -- a parked open has its descriptor: the name moves there
  pub sound-opened : (k new m kept : ℕ) (p : Process ℕ) → at ps k ≡ Some p → p.parked ≡ Some (Opening m kept) → Sound (put_at ps k (waiting None (with_descriptor new m p))) d
  sound-opened k new m kept p e w = sound-set k y d (omega arith) (λ n. fits n (nat_eq m n) refl) (λ n b. gone n (nat_eq m n) refl b)
    where
      y : Option (Process ℕ)
      y = Some (waiting None (with_descriptor new m p))

      old : (n : ℕ) → opens_by n (at ps k) ≡ one_if (nat_eq m n)
      old n = ap (opens_by n) e ∙ ap (opens n) w

      fits : (n : ℕ) (b : Bool) → nat_eq m n ≡ b → Fits n (at ps k) y
      fits n true t = inr (inr (omega (arith, old n, ap one_if t)))
      fits n false t = inl (omega arith, λ none. omega (arith, stands-names k p e n none, named-set n p.descriptors new (Some m), ap one_if t))

      gone : (n : ℕ) (b : Bool) → nat_eq m n ≡ b → d ≤ n → (opens_by n y ≡ 0) × (names_by n y ≡ 0)
      gone n true t l = absurd (omega (arith, old n, ap one_if t, weight-le-sum_of (λ p. opens n p.parked) ps k, (is.past n l).0))
      gone n false t l = (refl, omega (arith, stands-names k p e n (is.past n l).1, named-set n p.descriptors new (Some m), ap one_if t))

  -- a process with descriptors for new descriptions
  pub sound-fresh : (k e : ℕ) (q : Process ℕ) → d ≤ e → q.parked ≡ None → ((n : ℕ) → n < d → held ps n ≡ 0 → named_in itself n q.descriptors ≡ 0) → ((n : ℕ) → e ≤ n → named_in itself n q.descriptors ≡ 0) → Sound (put_at ps k q) e
  sound-fresh k e q more free old new = sound-set k (Some q) e more
      (λ n. ⊎_elim (λ l. inl (omega (arith, ap (opens n) free), old n l)) (λ l. inr (inl (l, inl (ap (opens n) free)))) (cases_lt n d))
      (λ n l. (ap (opens n) free, new n l))

  apart_from : (m n : ℕ) → m ≢ n → one_if (nat_eq m n) ≡ 0
  apart_from m n h = by_test (nat_eq m n) refl
    where
      by_test : (b : Bool) → nat_eq m n ≡ b → one_if b ≡ 0
      by_test true t = absurd (h (eqb-true m n t))
      by_test false t = refl

  -- Pipe
  pub sound-two : (k one two : ℕ) (p : Process ℕ) → at ps k ≡ Some p → p.parked ≡ None → Sound (put_at ps k (with_descriptor two (d + 1) (with_descriptor one d p))) (d + 2)
  sound-two k one two p e free = sound-fresh k (d + 2) (with_descriptor two (d + 1) (with_descriptor one d p)) (omega arith) free
      (λ n l none. omega (arith, both n, stands-names k p e n none, apart_from d n (λ h. omega (arith, h, l)), apart_from (d + 1) n (λ h. omega (arith, h, l))))
      (λ n l. omega (arith, both n, stands-names k p e n (is.past n (omega (arith, l))).1, apart_from d n (λ h. omega (arith, h, l)), apart_from (d + 1) n (λ h. omega (arith, h, l))))
    where
      both : (n : ℕ) → named_in itself n (set (set p.descriptors one (Some d)) two (Some (d + 1))) ≤ named_in itself n p.descriptors + one_if (nat_eq d n) + one_if (nat_eq (d + 1) n)
      both n = omega (arith, named-set n (set p.descriptors one (Some d)) two (Some (d + 1)), named-set n p.descriptors one (Some d))

  -- an open that has its descriptor at once
  pub sound-one : (k one : ℕ) (p : Process ℕ) → at ps k ≡ Some p → p.parked ≡ None → Sound (put_at ps k (with_descriptor one d p)) (d + 1)
  sound-one k one p e free = sound-fresh k (d + 1) (with_descriptor one d p) (omega arith) free
      (λ n l none. omega (arith, named-set n p.descriptors one (Some d), stands-names k p e n none, apart_from d n (λ h. omega (arith, h, l))))
      (λ n l. omega (arith, named-set n p.descriptors one (Some d), stands-names k p e n (is.past n (omega (arith, l))).1, apart_from d n (λ h. omega (arith, h, l))))
