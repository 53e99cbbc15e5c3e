-- What a run of a script's steps answers, where no namespace comes or goes.

use Rattle.std.specs.Prelude.{ℕ, ◌≡◌, ◌<◌, Bool, true, false, not, ⊤, List, [], ◌∷◌, length, take, slice_get}
use Rattle.std.specs.Prelude.{Option, Some, None, IfSome}
use Rattle.std.specs.List.{list_any}
use Rattle.pf_base.specs.Limits.{Limits}
use Rattle.pf_base.specs.declared.step.Step.{Step}
use Rattle.pf_base.specs.declared.step.Reply.{Reply}
use Rattle.pf_base.specs.declared.step.Answer.{Answer}
use Rattle.pf_base.specs.declared.step.Answer.TheVariants.{NoMemory}
use Rattle.pf_machine.specs.Events.{mine, kept, replies, keep_step, keep_reply}
use Rattle.pf_machine.specs.Machine.{may_want_memory}
use Rattle.pf_machine.specs.Queue.{Segment}
use Rattle.pf_machine.specs.Runs.{run_of, lone}
use Rattle.pf_machine.specs.State.{State, opening}
use Rattle.pf_hub.specs.Isolation.{NoWantWithoutNeed}
use Rattle.pf_script.specs.Script.{Draft}
use Rattle.pf_script.specs.declared.line.Line.{Line}
use Rattle.pf_script.specs.declared.line.Line.TheVariants as lines

-- whether a line is a step
abbrev pub is_step : Line → Bool
is_step (lines.Step step) = true
is_step lines.Admit = false
is_step lines.Retire = false

-- a line admits or retires a namespace
abbrev pub comes_and_goes : Draft → Bool
comes_and_goes script = list_any (λ e. not (is_step e.1)) script.steps

abbrev pub with_step : ℕ → Line → List (ℕ × Step) → List (ℕ × Step)
with_step n (lines.Step step) rest = (n, step) ∷ rest
with_step n lines.Admit rest = rest
with_step n lines.Retire rest = rest

-- the steps among these lines
abbrev pub steps_among : List (ℕ × Line) → List (ℕ × Step)
steps_among [] = []
steps_among (e ∷ es) = with_step e.0 e.1 (steps_among es)

abbrev pub steps_of : Draft → List (ℕ × Step)
steps_of script = steps_among script.steps

-- n is told what the lone machine of these limits is told on n's steps, but for those that memory was wanted
-- for; and these are steps that may want it, in the state that they met
abbrev pub IsTold : Limits → List (ℕ × Step) → List Answer → ℕ → Type 0
IsTold c steps answers n =
    (replies steps answers n ≡ lone c (kept steps answers n)) × NoWantWithoutNeed c opening steps answers n

-- one answer a step, and each namespace is told what its lone machine is, whose limits are its own
abbrev pub IsPlayed : Draft → List Answer → Type 0
IsPlayed script answers =
    (length answers ≡ length (steps_of script))
    × ((n : ℕ) → IfSome (slice_get script.spaces n) (λ space. IsTold space.1 (steps_of script) answers n))

-- the steps with these answers, but for those that memory was wanted for
abbrev pub kept_alone : List Step → List Answer → List Step
kept_alone [] answers = []
kept_alone (x ∷ xs) [] = []
kept_alone (x ∷ xs) (a ∷ answers) = keep_step a x (kept_alone xs answers)

-- the replies to them
abbrev pub replies_alone : List Answer → List Reply
replies_alone [] = []
replies_alone (a ∷ answers) = keep_reply a (replies_alone answers)

-- the state that the step at this place meets: the kept steps before it led there
abbrev pub met_alone : Limits → List Step → List Answer → ℕ → State Segment ℕ
met_alone c steps answers place = (run_of c opening (kept_alone (take place steps) answers)).state

-- no want without need: each step that memory was wanted for may want it, in the state that it met
abbrev pub NoWantAlone : Limits → List Step → List Answer → Type 0
NoWantAlone c steps answers = (place : ℕ) (step : Step) →
    slice_get steps place ≡ Some step → slice_get answers place ≡ Some NoMemory →
    may_want_memory c (met_alone c steps answers place) step ≡ true

-- the replies are those of the lone machine of these limits to these steps, but for those that memory was
-- wanted for; and these may want it
abbrev pub IsToldAlone : Limits → List Step → List Answer → Type 0
IsToldAlone c steps answers =
    (replies_alone answers ≡ lone c (kept_alone steps answers)) × NoWantAlone c steps answers

-- one answer for each step of namespace n, as its lone machine is told, whose limits are its own
abbrev pub IsPlayedAlone : Draft → ℕ → List Answer → Type 0
IsPlayedAlone script n answers =
    (length answers ≡ length (mine (steps_of script) n))
    × IfSome (slice_get script.spaces n) (λ space. IsToldAlone space.1 (mine (steps_of script) n) answers)

-- a namespace that is chosen exists
abbrev pub IsChosen : Draft → Option ℕ → Type 0
IsChosen script None = ⊤
IsChosen script (Some n) = n < length script.spaces

-- the same for all steps, or for those of one namespace that is chosen
abbrev pub IsRunFor : Draft → Option ℕ → List Answer → Type 0
IsRunFor script None answers = IsPlayed script answers
IsRunFor script (Some n) answers = IsPlayedAlone script n answers
