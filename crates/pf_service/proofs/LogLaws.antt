-- One more event of a namespace.

use Rattle.std.proofs.Common.{drop, ◌≡◌, ℕ, List, [], ◌∷◌, ◌++◌, length, ap, sym, ◌∙◌, subst}
use Rattle.std.specs.Prelude.{Result, Ok, Err, OnErr}
use Rattle.std.proofs.Math.Seq.{drop-append_seam}
use Rattle.std.proofs.lemmas.List.{map-append, length-map}
use Rattle.pf_base.specs.Limits.{Limits}
use Rattle.pf_machine.specs.Queue.{Segment}
use Rattle.pf_machine.specs.State.{State, opening}
use Rattle.pf_machine.specs.Machine.{Answers, step_of}
use Rattle.pf_machine.specs.Runs.{Run, run_of}
use Rattle.pf_machine.proofs.RunLaws.{run_of-push, run_of-answered}
use Rattle.pf_base.specs.declared.step.Step.{Step}
use Rattle.pf_base.specs.declared.step.Reply.{Reply}
use Rattle.pf_base.specs.declared.step.Answer.TheVariants.{Done}
use Rattle.pf_depot.specs.declared.loans.Loans.{Loans}
use Rattle.pf_depot.specs.Loans.{loans_live}
use Rattle.pf_space.specs.declared.placed.Placed.{Placed}
use Rattle.pf_tables.specs.Meaning.{Namespace, meaning}
use Rattle.pf_tables.specs.Owns.{Owns}
use Rattle.pf_service.specs.Log.{log_of, IsLog}
use Rattle.pf_service.specs.Told.{Told, IsAfterSome}
use Rattle.pf_service.specs.Transcripts.{OneTranscript, steps_in, replies_in, IsLone}

-- a transcript with these entries
abbrev pub under : Limits → List (Step × Reply) → OneTranscript
under limits es = record { limits = limits; entries = es }

-- what the namespace says of its step, under the transcript's limits
pub made : (space space' : Namespace) (loans loans' : Loans) (t : OneTranscript) (step : Step) (reply : Reply)
    → IsLog space loans t → Answers space.limits (Done reply) (meaning (loans_live loans) space.state) step (meaning (loans_live loans') space'.state)
    → Answers t.limits (Done reply) (meaning (loans_live loans) space.state) step (meaning (loans_live loans') space'.state)
made space space' loans loans' t step reply log answers =
    subst (λ (c : Limits). Answers c (Done reply) (meaning (loans_live loans) space.state) step (meaning (loans_live loans') space'.state)) log.limits answers

pub next : (space space' : Namespace) (loans loans' : Loans) (t : OneTranscript) (es : List (Step × Reply)) (step : Step) (reply : Reply)
    → IsLog space loans t → Owns (loans_live loans') space' → space'.limits ≡ space.limits
    → Answers space.limits (Done reply) (meaning (loans_live loans) space.state) step (meaning (loans_live loans') space'.state)
    → es ≡ t.entries ++ (step, reply) ∷ []
    → IsLog space' loans' (under t.limits es)
next space space' loans loans' t es step reply log owns limits answers more = record {
  limits = limits ∙ log.limits;
  owns = owns;
  ran =
      ap (λ (xs : List (Step × Reply)). run_of t.limits opening (steps_in xs)) more
      ∙ ap (run_of t.limits opening) (map-append (λ (e : Step × Reply). e.0) t.entries ((step, reply) ∷ []))
      ∙ run_of-answered t.limits opening _ _ (steps_in t.entries) step (replies_in t.entries) (Done reply) log.ran
      (made space space' loans loans' t step reply log answers)
      ∙ ap (λ (rs : List Reply). let r : Run = record { state = meaning (loans_live loans') space'.state; replies = rs } in r)
      (sym (map-append (λ (e : Step × Reply). e.1) t.entries ((step, reply) ∷ [])) ∙ ap replies_in (sym more));
}

-- what holds anyway holds where there is an error
pub on_err : {T E : Type 0} (P : Type 0) (r : Result T E) → P → OnErr r P
on_err P (Ok x) p = tt
on_err P (Err e) p = p

-- what hasn't changed is seen as it was
pub stays : {Z : Type 0} (placed placed' : Placed Z) (loans loans' : Loans) (limits : Limits) (es es' : List (Step × Reply))
    → placed' ≡ placed → loans' ≡ loans → es' ≡ es → log_of placed' loans' (under limits es') ≡ log_of placed loans (under limits es)
stays {Z} placed placed' loans loans' limits es es' p l e = λ i. log_of (p i) (l i) (under limits (e i))

-- a transcript is the lone machine's
pub alone : (space : Namespace) (loans : Loans) (t : OneTranscript) → IsLog space loans t → IsLone t
alone space loans t log = sym (ap (λ (r : Run). r.replies) log.ran)

-- what the caller of the event after these is told
pub told : (limits : Limits) (state : State Segment ℕ) (es : List (Step × Reply)) (step : Step) (reply : Reply)
    → run_of limits opening (steps_in es) ≡ record { state = state; replies = replies_in es } → reply ≡ (step_of limits state step).reply → Told step (length es) reply
told limits state es step reply ran is = (
  limits,
  steps_in es,
  record {
    number = length-map es (λ e. e.0);
    last =
        ap (λ (r : Run). drop (length es) r.replies) (run_of-push limits opening (steps_in es) step)
        ∙ ap (λ (r : Run). drop (length es) (r.replies ++ (step_of limits r.state step).reply ∷ [])) ran
        ∙ ap (λ (n : ℕ). drop n (replies_in es ++ (step_of limits state step).reply ∷ [])) (sym (length-map es (λ e. e.1)))
        ∙ drop-append_seam (replies_in es) ((step_of limits state step).reply ∷ [])
        ∙ ap (λ (r : Reply). r ∷ []) (sym is);
  },
)

-- what is so of its state is so after some steps
pub after_some : (Is : Limits → State Segment ℕ → Type 0) (limits : Limits) (state : State Segment ℕ) (es : List (Step × Reply))
    → run_of limits opening (steps_in es) ≡ record { state = state; replies = replies_in es } → Is limits state → IsAfterSome Is
after_some Is limits state es ran is = (limits, steps_in es, subst (λ (r : Run). Is limits r.state) (sym ran) is)
