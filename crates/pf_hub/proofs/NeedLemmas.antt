-- No want without need: one more event.

use Rattle.std.proofs.Common.{◌≡◌, ℕ, zero, suc, ◌<◌, ◌≤◌, Bool, true, false, List, [], ◌∷◌, ◌++◌, length, take}
use Rattle.std.proofs.Common.{refl, ap, sym, ◌∙◌, subst, arith, inl, inr}
use Rattle.std.specs.Prelude.{◌⊎◌, Some, nat_eq, if◌then◌else◌, slice_get}
use Rattle.std.proofs.Math.Seq.{take-length}
use Rattle.std.proofs.lemmas.Bool.{cases_lt}
use Rattle.std.proofs.lemmas.List.{take-append-le, length-take}
use Rattle.pf_base.specs.Limits.{Limits}
use Rattle.pf_machine.specs.Queue.{Segment}
use Rattle.pf_machine.specs.State.{State}
use Rattle.pf_machine.specs.Machine.{may_want_memory}
use Rattle.pf_machine.specs.Runs.{run_of}
use Rattle.pf_machine.specs.Events.{kept, keep_step, IsDone}
use Rattle.pf_base.specs.declared.step.Step.{Step}
use Rattle.pf_base.specs.declared.step.Answer.{Answer}
use Rattle.pf_base.specs.declared.step.Answer.TheVariants.{NoMemory}
use Rattle.pf_hub.specs.Isolation.{met_at, NoWantWithoutNeed}

-- Places of lists that grow by one

module _ {X : Type 0} where
  at_front : (xs ys : List X) (i : ℕ) → i < length xs → slice_get (xs ++ ys) i ≡ slice_get xs i
  at_front [] ys i h = absurd (omega arith)
  at_front (x ∷ xs) ys zero h = refl
  at_front (x ∷ xs) ys (suc i) h = at_front xs ys i (omega arith)

  at_end : (xs : List X) (x p : X) (i : ℕ) → length xs ≤ i → slice_get (xs ++ x ∷ []) i ≡ Some p
      → (i ≡ length xs) × (p ≡ x)
  at_end [] x p zero h at = (refl, cc)
  at_end [] x p (suc i) h at = absurd (cc)
  at_end (y ∷ xs) x p zero h at = absurd (omega arith)
  at_end (y ∷ xs) x p (suc i) h at = let last = at_end xs x p i (omega arith) at in (ap suc last.0, last.1)

-- what stands at a place of both stood there before, or is the last of both
pub at_grown : {X Y : Type 0} (xs : List X) (ys : List Y) (x p : X) (y q : Y) (i : ℕ) → length ys ≡ length xs
    → slice_get (xs ++ x ∷ []) i ≡ Some p → slice_get (ys ++ y ∷ []) i ≡ Some q
    → ((i < length xs) × (slice_get xs i ≡ Some p) × (slice_get ys i ≡ Some q))
    ⊎ ((i ≡ length xs) × (p ≡ x) × (q ≡ y))
at_grown xs ys x p y q i many at at' = elim (cases_lt i (length xs)) [
  | inl h ↦ inl (h, sym (at_front xs (x ∷ []) i h) ∙ at, sym (at_front ys (y ∷ []) i (omega arith)) ∙ at')
  | inr h ↦
      let one = at_end xs x p i h at in
      let other = at_end ys y q i (omega arith) at' in
      inr (one.0, one.1, other.1)
]

-- Want of memory

-- a step that needs no memory is answered, so one that isn't may want it
pub may_want : (b : Bool) (a : Answer) → a ≡ NoMemory → (b ≡ false → IsDone a) → b ≡ true
may_want true a none done = refl
may_want false a none done = absurd (subst IsDone none (done refl))

-- answers to later events change nothing
kept-front : (es : List (ℕ × Step)) (answers more : List Answer) (n : ℕ) → length es ≤ length answers
    → kept es (answers ++ more) n ≡ kept es answers n
kept-front [] answers more n h = refl
kept-front (e ∷ es) [] more n h = absurd (omega arith)
kept-front (e ∷ es) (a ∷ answers) more n h =
    ap (λ (r : List Step). if nat_eq e.0 n then keep_step a e.1 r else r) (kept-front es answers more n (omega arith))

module _ (c : Limits) (begun : State Segment ℕ) (es : List (ℕ × Step)) (answers : List Answer) (n : ℕ)
    (many : length answers ≡ length es) where
  -- nor do later events
  met_before : (fs : List (ℕ × Step)) (more : List Answer) (i : ℕ) → i ≤ length es
      → met_at c begun (es ++ fs) (answers ++ more) n i ≡ met_at c begun es answers n i
  met_before fs more i h =
      ap (λ (xs : List (ℕ × Step)). (run_of c begun (kept xs (answers ++ more) n)).state) (take-append-le i es fs h)
      ∙ ap (λ (xs : List Step). (run_of c begun xs).state)
      (kept-front (take i es) answers more n (omega (arith, length-take i es)))

  -- one more event, that memory was wanted for only if it may want it
  pub needed_next : (e : ℕ × Step) (a : Answer) → NoWantWithoutNeed c begun es answers n
      → (e.0 ≡ n → a ≡ NoMemory → may_want_memory c (run_of c begun (kept es answers n)).state e.1 ≡ true)
      → NoWantWithoutNeed c begun (es ++ e ∷ []) (answers ++ a ∷ []) n
  needed_next e a before last i step at at' =
      let met : i ≤ length es → may_want_memory c (met_at c begun (es ++ e ∷ []) (answers ++ a ∷ []) n i) step
      ≡ may_want_memory c (met_at c begun es answers n i) step
      = λ h. ap (λ s. may_want_memory c s step) (met_before (e ∷ []) (a ∷ []) i h) in
      elim (at_grown es answers e (n, step) a NoMemory i many at at') [
        | inl was ↦ met (omega arith) ∙ before i step was.1 was.2
        | inr is ↦
            met (omega arith)
            ∙ ap (λ (xs : List (ℕ × Step)). may_want_memory c (run_of c begun (kept xs answers n)).state step)
            (ap (λ k. take k es) is.0 ∙ take-length es)
            ∙ ap (λ (x : ℕ × Step). may_want_memory c (run_of c begun (kept es answers n)).state x.1) is.1
            ∙ last (sym (ap (λ (x : ℕ × Step). x.0) is.1)) (sym is.2)
      ]
