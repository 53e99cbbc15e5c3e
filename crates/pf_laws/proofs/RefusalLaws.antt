-- A refusal leaves the state as it was, wherever a run leads from the opening state.

use Rattle.std.proofs.Common.{◌≡◌, ℕ, zero, suc, ◌-◌, Bool, true, false, List, ◌∷◌, Option, Some, None, Ok, Err, refl, sym, ap, ◌∙◌, subst, arith, nat_lt, if◌then◌else◌}
use Rattle.std.specs.Prelude.{Result, ⊤}
use Rattle.std.specs.Option.{option_map, option_and_then}
use Rattle.pf_machine.specs.Refusals.{◌>>=◌, or_refuse}
use Rattle.pf_base.specs.Limits.{Limits}
use Rattle.pf_machine.specs.Queue.{Segment}
use Rattle.pf_machine.specs.Numbered.{at, change_at, weight, keep}
use Rattle.pf_machine.proofs.NumberedLaws.{sum_of-set, at_within}
use Rattle.pf_machine.proofs.SweepLaws.{sweep-sweep}
use Rattle.pf_machine.specs.Calls.{Call, Opening, Moving, made_by}
use Rattle.pf_machine.specs.State.{itself, State, Process, Description, End, Outcome, vacant, opening, settle, living, end_at, change_process, waiting}
use Rattle.pf_machine.specs.Counts.{named_in, names_of, names}
use Rattle.pf_machine.specs.Transfers.{tried}
use Rattle.pf_machine.specs.Attempts.{Attempt, Finished, Waits, given, other_opens, open_told, attempt, again, resume}
use Rattle.pf_machine.specs.Sweep.{live_descriptions, live_pipes, sweep}
use Rattle.pf_machine.specs.Machine.{call_of, call, act, step_of}
use Rattle.pf_laws.specs.Standing.{reached, AfterResume, RefusalsChangeNothing}
use Rattle.pf_base.specs.declared.TheConstants.{MAX_PROCESSES}
use Rattle.pf_base.specs.declared.errno.Errno.{Errno}
use Rattle.pf_base.specs.declared.errno.Errno.TheVariants.{ESRCH, EBADF, EINVAL}
use Rattle.pf_base.specs.declared.step.Reply.TheVariants as replies
use Rattle.pf_base.specs.declared.step.Step.{Step}
use Rattle.pf_base.specs.declared.step.Step.TheVariants as steps
use Rattle.pf_machine.proofs.HoldsLaws.{Holds, IsOk}
use Rattle.pf_laws.proofs.PieceLaws.{at-replicate}
use Rattle.pf_laws.proofs.WaitLaws.{CanTry, AllCanTry, sweep-all}
use Rattle.pf_machine.proofs.AttemptLaws.{Told, attempt-told}
use Rattle.pf_machine.proofs.RunLaws.{run-keeps}
use Rattle.pf_machine.proofs.StepLaws.{IsNoError}
use Rattle.pf_laws.proofs.WaitSteps.{Good, GoodOf, good, can-try}

-- States that runs reach

-- whoever waits may try again, and nothing stands that nobody can reach
pub record Settled (s : State Segment ℕ) : Type 0 where
  pub can_try : AllCanTry s
  pub swept : sweep itself s ≡ s

module _ (s : State Segment ℕ) (is : Settled s) where
  pub step-settled : (c : Limits) (step : Step) → Settled (step_of c s step).state
  step-settled c step = record {
    can_try = sweep-all (act c s step).state (by_call (call c s step) (good s is.can_try c step));
    swept = sweep-sweep itself (act c s step).state (act c s step).state.processes (act c s step).state.processes
        (λ k. omega arith);
  }
    where
      by_call : (r : Result (Outcome Segment ℕ) Errno) → Holds (GoodOf s is.can_try step) r
          → AllCanTry (settle s r).state
      by_call (Ok o) h = can-try s is.can_try step o h
      by_call (Err e) h = is.can_try

  -- A step that is told an error

  -- it is refused by the call itself
  refused : (r : Result (Outcome Segment ℕ) Errno) → Holds (Good s is.can_try) r → (e : Errno)
      → (settle s r).reply ≡ replies.Err e → sweep itself (settle s r).state ≡ s
  refused (Ok o) h e told = absurd (subst IsNoError told h.told)
  refused (Err x) h e told = is.swept

  -- a call that has made nothing goes, and no name with it
  names-stay : (i : ℕ) (p : Process ℕ) → at s.processes i ≡ Some p → made_by p.parked ≡ None → (n : ℕ)
      → names itself (change_at (waiting None) s.processes i) n ≡ names itself s.processes n
  names-stay i p here none n =
      let w : Process ℕ → ℕ = λ q. named_in itself n (names_of q) in
      let old : weight w (at s.processes i) ≡ w p = ap (weight w) here in
      let new : weight w (option_map (waiting None) (at s.processes i)) ≡ w (waiting None p) =
      ap (λ (o : Option (Process ℕ)). weight w (option_map (waiting None) o)) here in
      let same : w p ≡ w (waiting None p) = ap (λ (o : Option ℕ). named_in itself n (o ∷ p.descriptors)) none in
      omega (
        arith,
        sum_of-set w s.processes i (option_map (waiting None) (at s.processes i))
            (at_within s.processes i p here),
        old,
        new,
        same,
      )

  ended : (i : ℕ) (p : Process ℕ) → at s.processes i ≡ Some p → made_by p.parked ≡ None
      → sweep itself (change_process (waiting None) s (suc i)) ≡ change_process (waiting None) s (suc i)
  ended i p here none = λ j. record {
    processes = qs;
    descriptions = described j;
    pipes = piped j;
    files = s.files;
    files_made = s.files_made;
  }
    where
      qs : List (Option (Process ℕ))
      qs = change_at (waiting None) s.processes (suc i - 1)

      named : (n : ℕ) → names itself qs n ≡ names itself s.processes n
      named n = let same : suc i - 1 ≡ i = omega arith in ap
          (λ k. names itself (change_at (waiting None) s.processes k) n) same ∙ names-stay i p here none n

      kept : live_descriptions itself qs s.descriptions ≡ live_descriptions itself s.processes s.descriptions
      kept = λ j. keep (λ n. nat_lt 0 (named n j)) s.descriptions

      described : live_descriptions itself qs s.descriptions ≡ s.descriptions
      described = kept ∙ ap (λ (t : State Segment ℕ). t.descriptions) is.swept

      piped : live_pipes itself (live_descriptions itself qs s.descriptions) s.pipes ≡ s.pipes
      piped = ap (λ (ds : List (Option (Description ℕ))). live_pipes itself ds s.pipes) kept
          ∙ ap (λ (t : State Segment ℕ). t.pipes) is.swept

  -- a Resume of a process that waits in a call
  told-resume : (i : ℕ) (p : Process ℕ) (call : Call ℕ) → at s.processes i ≡ Some p → p.parked ≡ Some call → (e : Errno)
      → (again s (suc i) (attempt s (suc i) p call)).reply ≡ replies.Err e
      → AfterResume s (suc i) e (sweep itself (again s (suc i) (attempt s (suc i) p call)).state) (Some call)
  told-resume i p (Opening n kept) here waits e told = by_end (or_refuse EBADF (end_at itself s n)) may told
    where
      may : IsOk (or_refuse EBADF (end_at itself s n))
      may = subst (λ (o : Option (Call ℕ)). CanTry s p o) waits (is.can_try.each i p here)

      by_came : (b : Bool) → (again s (suc i) (Ok
          (if b then given s (suc i) p n else Waits s (Opening n kept)))).reply ≡ replies.Err e → ⊥
      by_came true f = subst IsNoError f tt
      by_came false f = subst IsNoError f tt

      by_end : (r : Result (End Segment ℕ) Errno) → IsOk r → (again s (suc i)
          (r >>= (λ x. Ok (open_told s (suc i) p n kept x)))).reply ≡ replies.Err e
          → AfterResume s (suc i) e
          (sweep itself (again s (suc i) (r >>= (λ x. Ok (open_told s (suc i) p n kept x)))).state)
          (Some (Opening n kept))
      by_end (Ok x) h f = absurd (by_came (nat_lt kept (other_opens x)) f)
      by_end (Err x) h f = absurd h
  told-resume i p (Moving call) here waits e told =
      by_attempt (attempt s (suc i) p (Moving call)) (attempt-told s (λ t. ⊤) tt (λ t n q h. tt) p (suc i) call) told
    where
      may : IsOk (tried s p call)
      may = subst (λ (o : Option (Call ℕ)). CanTry s p o) waits (is.can_try.each i p here)

      by_attempt : (r : Result (Attempt Segment ℕ) Errno) → Told s (λ t. ⊤) tt (λ t n q h. tt) p call r
          → (again s (suc i) r).reply ≡ replies.Err e
          → AfterResume s (suc i) e (sweep itself (again s (suc i) r).state) (Some (Moving call))
      by_attempt (Ok (Finished t reply)) h f = absurd (subst IsNoError f h.1)
      by_attempt (Ok (Waits t next)) h f = absurd (subst IsNoError f tt)
      by_attempt (Err x) h f = (let same : x ≡ e = cc in sym same ∙ h may, ended i p here (ap made_by waits))

  resumed : (pid : ℕ) (e : Errno) → (settle s (living s pid >>= (λ p. resume s pid p))).reply ≡ replies.Err e
      → AfterResume s pid e (sweep itself (settle s (living s pid >>= (λ p. resume s pid p))).state) (call_of s pid)
  resumed zero e told = is.swept
  resumed (suc i) e told = by_process (at s.processes i) refl told
    where
      by_call : (p : Process ℕ) → at s.processes i ≡ Some p → (o : Option (Call ℕ)) → p.parked ≡ o
          → (settle s (or_refuse EINVAL o >>= (λ call. Ok (again s (suc i) (attempt s (suc i) p call))))).reply ≡
          replies.Err e
          → AfterResume s (suc i) e (sweep itself (settle s
          (or_refuse EINVAL o >>= (λ call. Ok (again s (suc i) (attempt s (suc i) p call))))).state) o
      by_call p here None waits f = is.swept
      by_call p here (Some call) waits f = told-resume i p call here waits e f

      by_process : (o : Option (Process ℕ)) → at s.processes i ≡ o
          → (settle s (or_refuse ESRCH o >>= (λ p. resume s (suc i) p))).reply ≡ replies.Err e
          → AfterResume s (suc i) e (sweep itself (settle s (or_refuse ESRCH o >>= (λ p. resume s (suc i) p))).state)
          (option_and_then (λ (p : Process ℕ). p.parked) o)
      by_process None here f = is.swept
      by_process (Some p) here f = by_call p here p.parked refl f

  step-refused : (c : Limits) → RefusalsChangeNothing c s
  step-refused c (steps.Resume pid) e told = resumed pid e told
  step-refused c step e told = refused (call c s step) (good s is.can_try c step) e told

-- Runs

-- nobody lives
pub opening-settled : Settled opening
unfolding vacant
opening-settled = record {
  can_try = record {
    each = λ k p e. let none : None ≡ Some p = sym
        (at-replicate MAX_PROCESSES k) ∙ e in absurd (cc);
  };
  swept = refl;
}

pub refusals_change_nothing : (c : Limits) (xs : List Step) → RefusalsChangeNothing c (reached c xs)
refusals_change_nothing c xs =
    step-refused (reached c xs) (run-keeps Settled c (λ s x h. step-settled s h c x) opening xs opening-settled) c
