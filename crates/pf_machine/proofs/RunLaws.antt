-- Laws of runs: the run of two lists in turn, and of one more step.

use Rattle.std.proofs.Common.{◌≡◌, ℕ, List, ◌∷◌, ◌++◌, refl, ap, sym, ◌∙◌, append-nil, []}
use Rattle.pf_base.specs.Limits.{Limits}
use Rattle.pf_machine.specs.Queue.{Segment}
use Rattle.pf_machine.specs.State.{State}
use Rattle.pf_machine.specs.Machine.{step_of, Answers}
use Rattle.pf_machine.specs.Runs.{Run, run_of}
use Rattle.pf_machine.specs.Events.{keep_step, keep_reply}
use Rattle.pf_base.specs.declared.step.Step.{Step}
use Rattle.pf_base.specs.declared.step.Reply.{Reply}
use Rattle.pf_base.specs.declared.step.Answer.{Answer}
use Rattle.pf_base.specs.declared.step.Answer.TheVariants.{Done, NoMemory}

-- the second list runs where the first one led
pub run_of-append : (c : Limits) (s : State Segment ℕ) (xs ys : List Step) → run_of c s (xs ++ ys) ≡ record { state = (run_of c (run_of c s xs).state ys).state; replies = (run_of c s xs).replies ++ (run_of c (run_of c s xs).state ys).replies }
run_of-append c s [] ys = refl
run_of-append c s (x ∷ xs) ys =
    let rest = run_of-append c (step_of c s x).state xs ys in
    λ i. record { state = (rest i).state; replies = (step_of c s x).reply ∷ (rest i).replies }

-- one more step
pub run_of-push : (c : Limits) (s : State Segment ℕ) (xs : List Step) (x : Step) → run_of c s (xs ++ x ∷ []) ≡ record { state = (step_of c (run_of c s xs).state x).state; replies = (run_of c s xs).replies ++ (step_of c (run_of c s xs).state x).reply ∷ [] }
run_of-push c s xs x = run_of-append c s xs (x ∷ [])

-- a run, where it led and what it replied, goes on by an answer
pub run_of-answered : (c : Limits) (s old new : State Segment ℕ) (xs : List Step) (x : Step) (rs : List Reply) (a : Answer) → run_of c s xs ≡ record { state = old; replies = rs } → Answers c a old x new → run_of c s (xs ++ keep_step a x []) ≡ record { state = new; replies = rs ++ keep_reply a [] }
run_of-answered c s old new xs x rs (Done r) so made =
    run_of-push c s xs x
    ∙ ap (λ (w : Run). record { state = (step_of c w.state x).state; replies = w.replies ++ (step_of c w.state x).reply ∷ [] }) so
    ∙ (λ i. record { state = (sym made i).state; replies = rs ++ (sym made i).reply ∷ [] })
run_of-answered c s old new xs x rs NoMemory so same =
    ap (run_of c s) (append-nil xs)
    ∙ so
    ∙ (λ i. record { state = sym same i; replies = sym (append-nil rs) i })

-- what each step keeps, a run keeps
pub run-keeps : (P : State Segment ℕ → Type 0) (c : Limits)
    → ((s : State Segment ℕ) (x : Step) → P s → P (step_of c s x).state)
    → (s : State Segment ℕ) (xs : List Step) → P s → P (run_of c s xs).state
run-keeps P c keeps s [] m = m
run-keeps P c keeps s (x ∷ xs) m = run-keeps P c keeps (step_of c s x).state xs (keeps s x m)
