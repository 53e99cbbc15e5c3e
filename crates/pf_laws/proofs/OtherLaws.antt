-- A process that waits stays as it is, but for its own Resume and Exit.

use Rattle.std.proofs.Common.{◌≡◌, ◌≢◌, ℕ, suc, ◌+◌, ◌-◌, Bool, true, false, List, length, set, Option, Some, None, Ok, Err, refl, sym, ap, ◌∙◌, ◌⊎◌, inl, inr, arith, nat_eq}
use Rattle.std.proofs.lemmas.Bool.{eqb-true, eqb-false}
use Rattle.std.specs.Prelude.{Result, is_some, ⊤}
use Rattle.std.specs.Option.{option_map}
use Rattle.pf_base.specs.Limits.{Limits}
use Rattle.pf_machine.specs.Queue.{Segment}
use Rattle.pf_machine.specs.Numbered.{at, first_free}
use Rattle.pf_machine.proofs.NumberedLaws.{at-put_same, at-put_other, at_within, at-first_free}
use Rattle.pf_machine.specs.Calls.{Transfer, Call, Moving}
use Rattle.pf_machine.specs.State.{itself, State, Process, Outcome, settle, without_process, change_process, done, with_process, with_descriptor}
use Rattle.pf_machine.specs.Attempts.{transfer, resume}
use Rattle.pf_machine.specs.Opens.{Access, open_path}
use Rattle.pf_machine.specs.Machine.{call, act}
use Rattle.pf_laws.specs.Streams.{in_call, is_parked}
use Rattle.pf_base.specs.declared.errno.Errno.{Errno}
use Rattle.pf_base.specs.declared.step.Step.{Step}
use Rattle.pf_base.specs.declared.step.Step.TheVariants as steps
use Rattle.pf_machine.proofs.HoldsLaws.{Holds, weakens}
use Rattle.pf_machine.proofs.AttemptLaws.{transfer-comes, resume-comes, made, open-comes}
use Rattle.pf_machine.proofs.StepLaws.{Lives, Free, Still, all-move, step-keeps}

module _ (s : State Segment ℕ) (i : ℕ) where
  -- the process in place i is as it was
  pub record Same (ps : List (Option (Process ℕ))) : Type 0 where
    pub is : at ps i ≡ at s.processes i

  abbrev pub Stays : Outcome Segment ℕ → Type 0
  Stays o = Same o.state.processes

  pub same-all : Same s.processes
  same-all = record { is = refl }

  pub same-put : (k : ℕ) (x : Option (Process ℕ)) → i ≢ k → Same (set s.processes k x)
  same-put k x apart = record { is = at-put_other s.processes k i x apart }

  pub settle-stays : (r : Result (Outcome Segment ℕ) Errno) → Holds Stays r → Same (settle s r).state.processes
  settle-stays (Ok o) h = h
  settle-stays (Err e) h = record { is = refl }

  same-as : (ps : List (Option (Process ℕ))) → ps ≡ s.processes → Same ps
  same-as ps e = record { is = ap (λ qs. at qs i) e }

  module _ (q : ℕ) (apart : i ≢ q - 1) where
    change-stays : (f : Process ℕ → Process ℕ) (t : State Segment ℕ) → Same t.processes → Same (change_process f t q).processes
    change-stays f t h = record { is = at-put_other t.processes (q - 1) i (option_map f (at t.processes (q - 1))) apart ∙ h.is }

    -- a transfer leaves the processes
    abbrev Level : State Segment ℕ → Type 0
    Level t = t.processes ≡ s.processes

    level-stays : (f : Process ℕ → Process ℕ) (t : State Segment ℕ) → Level t → Same (change_process f t q).processes
    level-stays f t h = change-stays f t (same-as t.processes h)

    pub transfer-stays : (p : Process ℕ) (flag : Bool) (call : Transfer) → Holds Stays (transfer s q p flag call)
    transfer-stays p =
        transfer-comes s Level refl (λ t n x h. h) p Stays q (λ t r h fine. same-as t.processes h)
        (λ t call h may n. level-stays _ t h)

    pub resume-stays : (p : Process ℕ) → Holds Stays (resume s q p)
    resume-stays p =
        resume-comes s Level refl (λ t n x h. h) p Stays q (λ t r h. level-stays _ t h)
        (λ t call h may n. level-stays _ t h)
        (λ n kept w. change-stays _ (with_process s q (with_descriptor (first_free p.descriptors) n p))
        (same-put (q - 1) _ apart)) (λ n kept w. level-stays _ s refl)

    pub open_path-stays : (c : Limits) (p : Process ℕ) (path : List ℕ) (a : Access)
        → Holds Stays (open_path itself (length s.descriptions) itself c s q p path a)
    open_path-stays c p path a =
        open-comes s Stays c q p a (λ x. Level x.state) (λ n file e. refl) (λ f there e slots. refl)
        (λ x h. record { is = at-put_other x.state.processes (q - 1) i _ apart ∙ ap (λ qs. at qs i) h })
        (λ x h kept. level-stays _ (made a x) h) path

-- Steps

-- the process in place i waits in a transfer
pub record InCall (s : State Segment ℕ) (i : ℕ) (call : Transfer) : Type 0 where
  pub who : Process ℕ
  pub stands : at s.processes i ≡ Some who
  pub waits : who.parked ≡ Some (Moving call)

pub in_call-parked : {s : State Segment ℕ} {i : ℕ} {call : Transfer} → InCall s i call → is_parked s (suc i) ≡ true
in_call-parked w = ap in_call w.stands ∙ ap (λ (o : Option (Call ℕ)). is_some o) w.waits

pub in_call-same : {s : State Segment ℕ} {i : ℕ} {call : Transfer} (t : State Segment ℕ) → InCall s i call
    → at t.processes i ≡ at s.processes i → InCall t i call
in_call-same t w e = record { who = w.who; stands = e ∙ w.stands; waits = w.waits }

-- it is as it was, or it waits no more
abbrev pub Left : State Segment ℕ → ℕ → Outcome Segment ℕ → Type 0
Left s i o = Same s i o.state.processes ⊎ (is_parked o.state (suc i) ≡ false)

-- a step that is not the Resume of a process
abbrev pub IsNoResumeOf : ℕ → Step → Type 0
IsNoResumeOf pid (steps.Resume q) = nat_eq q pid ≡ false
IsNoResumeOf pid _ = ⊤

module _ {s : State Segment ℕ} {i : ℕ} {waited : Transfer} (w : InCall s i waited) where
  -- who makes a step waits in no call, and a new process comes where none was
  apart : (q : ℕ) (p : Process ℕ) → Free s q p → i ≢ q - 1
  apart q p f e =
      let who : Some w.who ≡ Some p = sym w.stands ∙ ap (at s.processes) e ∙ f.at_place in
      let both : w.who.parked ≡ p.parked = cc in
      let none : Some (Moving waited) ≡ None = sym w.waits ∙ both ∙ f.free in cc

  spare : i ≢ first_free s.processes + 1 - 1
  spare e =
      let same : first_free s.processes + 1 - 1 ≡ first_free s.processes = omega arith in
      let both : at s.processes i ≡ None = ap (at s.processes) (e ∙ same) ∙ at-first_free s.processes in
      let none : Some w.who ≡ None = sym w.stands ∙ both in cc

  by_pid : (q : ℕ) (p : Process ℕ) → Lives s q p → nat_eq q (suc i) ≡ false → i ≢ q - 1
  by_pid q p l other e = eqb-false q (suc i) other (omega (arith, e, l.counts))

  -- its own Exit
  exit-leaves : (q : ℕ) (p : Process ℕ) → Lives s q p → (b : Bool) → nat_eq q (suc i) ≡ b
      → Left s i (done (without_process s q) 0)
  exit-leaves q p l false e = inl (same-put s i (q - 1) None (by_pid q p l e))
  exit-leaves q p l true e =
      let same : q - 1 ≡ i = omega (arith, eqb-true q (suc i) e) in
      inr (ap in_call (ap (λ k. at (set s.processes k None) i) same
      ∙ at-put_same s.processes i None (at_within s.processes i w.who w.stands)))

  still : Still s (Left s i)
  still = record {
    spawned = λ cred. inl (same-put s i _ _ spare);
    forked = λ pid p f. inl (same-put s i _ _ spare);
    exited = λ pid p l. exit-leaves pid p l (nat_eq pid (suc i)) refl;
    duped = λ pid p fd n f e. inl (same-put s i _ _ (apart pid p f));
    closed = λ pid p fd f. inl (same-put s i _ _ (apart pid p f));
    flagged = λ n on. inl (same-all s i);
    piped = λ pid p nonblock f slots. inl (same-put s i _ _ (apart pid p f));
    sized = λ p fd e h pages. inl (same-all s i);
    looked = λ r fine short. inl (same-all s i);
    made = λ c kind path mode files e. inl (same-all s i);
    filed = λ c files how. inl (same-all s i);
    opened = λ c pid p path a f.
        weakens (Stays s i) (Left s i) _ (λ o h. inl h) (open_path-stays s i pid (apart pid p f) c p path a);
  }

  kept : (c : Limits) (y : Step) → IsNoResumeOf (suc i) y → Holds (Left s i) (call c s y)
  kept c (steps.Resume q) h = step-keeps s (Left s i) still c (steps.Resume q) (λ p l.
      weakens (Stays s i) (Left s i) _ (λ o h. inl h) (resume-stays s i q (by_pid q p l h) p))
  kept c y h = step-keeps s (Left s i) still c y (all-move s (Left s i) (λ pid p flag call f.
      weakens (Stays s i) (Left s i) _ (λ o h. inl h) (transfer-stays s i pid (apart pid p f) p flag call))
      (λ names. inl (same-all s i)) y tt)

  pub others-leave : (c : Limits) (y : Step) → IsNoResumeOf (suc i) y → Left s i (act c s y)
  others-leave c y h = settled (call c s y) (kept c y h)
    where
      settled : (r : Result (Outcome Segment ℕ) Errno) → Holds (Left s i) r → Left s i (settle s r)
      settled (Ok o) h = h
      settled (Err e) h = inl (record { is = refl })
