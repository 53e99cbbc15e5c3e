-- A script's namespaces as workers, each on a thread of its own, and a gate that is told of their steps and of their frames.

use Rattle.std.specs.Prelude.{◌≡◌, ℕ, false, ◌<◌, ◌≤◌, ◌⊎◌, List, [], length, map, slice_get, Option, Some, None, IfSome}
use Rattle.std.specs.List.{AllZip}
use Rattle.pf_base.specs.declared.admission.EventAnswer.{EventAnswer}
use Rattle.pf_base.specs.declared.admission.EventAnswer.TheVariants as told
use Rattle.pf_base.specs.declared.step.Answer.{Answer}
use Rattle.pf_hub.specs.Opening.{new_tenant}
use Rattle.pf_base.specs.Limits.{Limits}
use Rattle.pf_base.specs.declared.step.Step.{Step}
use Rattle.pf_machine.specs.Events.{mine}
use Rattle.pf_machine.specs.Numbered.{at}
use Rattle.pf_machine.specs.Queue.{Segment, bytes_of}
use Rattle.pf_machine.specs.State.{State, Pipe}
use Rattle.pf_play.specs.Answered.{Holds}
use Rattle.pf_play.specs.Played.{IsPlayedAlone, comes_and_goes, met_alone, steps_of}
use Rattle.pf_play.specs.Plays.{IsPlayedFor}
use Rattle.pf_play.specs.Replays.{IsJudged, Names}
use Rattle.pf_play.specs.declared.answered.Answered.{Answered}
use Rattle.pf_script.specs.Ports.{Input, Output, IsWritten}
use Rattle.pf_script.specs.Script.{Draft}
use Rattle.pf_script.specs.Text.{answers_of, text}
use Rattle.pf_worker.specs.Workers.{OneWorker}

-- what a gate's calls give of a namespace and a place
abbrev pub Passed : Type 1
Passed = ℕ → ℕ → Type 0

-- the worker of a namespace of the script that nothing has happened to; and no namespace of the script comes or goes
abbrev pub IsOpened : {Z : Type 0} → Draft → OneWorker Z → Type 0
IsOpened script worker =
    (comes_and_goes script ≡ false)
    × (slice_get (map (λ s. new_tenant s.1) script.spaces) worker.number ≡ Some worker.tenant)

-- the gate was told of so many steps of namespace n, at the places from 0
abbrev pub ArePassed : Passed → ℕ → ℕ → Type 0
ArePassed passed n number = (place : ℕ) → place < number → passed n place

-- these answers to lines are those to the steps of namespace n, which is told what its lone machine is
abbrev pub AreToldAlone : Draft → ℕ → List EventAnswer → Type 0
AreToldAlone script n all = (answers : List Answer) × (all ≡ map told.Answer answers) × IsPlayedAlone script n answers

-- what its calls give of a namespace that takes a frame
abbrev pub Framed : Type 1
Framed = ℕ → Type 0

-- no pipe has a byte
abbrev pub IsDry : State Segment ℕ → Type 0
IsDry s = (k : ℕ) (p : Pipe Segment) → at s.pipes k ≡ Some p → bytes_of p.queue ≡ []

-- where after the first so many of these steps, with these answers, a pipe has a byte, this was told
abbrev pub IsToldOfBytes : Type 0 → Limits → List Step → List Answer → Type 0
IsToldOfBytes Told c steps answers = (place : ℕ) → place ≤ length steps → IsDry (met_alone c steps answers place) ⊎ Told

-- these answers to lines are those to the steps of namespace n; and the gate was told that n takes a frame, where after any
-- of them a pipe of its lone machine has a byte
abbrev pub IsFramed : Framed → Draft → ℕ → List EventAnswer → Type 0
IsFramed framed script n all =
    (answers : List Answer) × (all ≡ map told.Answer answers)
    × IfSome (slice_get script.spaces n) (λ space. IsToldOfBytes (framed n) space.1 (mine (steps_of script) n) answers)

-- namespace n is told what its lone machine is, and the gate was told of each of its steps, and that it takes a frame
abbrev pub IsWorked : Passed → Framed → Draft → ℕ → List EventAnswer → Type 0
IsWorked passed framed script n all =
    AreToldAlone script n all × ArePassed passed n (length all) × IsFramed framed script n all

-- so it is of each worker
abbrev pub AreWorked : {Z : Type 0} → Passed → Framed → Draft → List (OneWorker Z) → List (List EventAnswer) → Type 0
AreWorked passed framed script workers own =
    AllZip (λ worker answers. IsWorked passed framed script worker.number answers) workers own

-- the gate was told of each step of namespace n
abbrev pub IsPassed : Passed → Draft → ℕ → Type 0
IsPassed passed script n = ArePassed passed n (length (mine (steps_of script) n))

-- of each step of all namespaces, or of the one that is chosen
abbrev pub IsPassedFor : Passed → Draft → Option ℕ → Type 0
IsPassedFor passed script None = (n : ℕ) → n < length script.spaces → IsPassed passed script n
IsPassedFor passed script (Some n) = IsPassed passed script n

-- the whole input is accepted, and the gate was told of each of its steps, or of those of the name that is chosen
abbrev pub IsGated : Passed → Input → Input → Option (List ℕ) → Type 0
IsGated passed input rest name =
    IsJudged input rest (λ script. (only : Option ℕ) × Names script name only × IsPassedFor passed script only)

-- of these answers to all lines, or to those of the one that is chosen, the gate was told so of each namespace's frames
abbrev pub IsFramedFor : Framed → Draft → Option ℕ → List EventAnswer → Type 0
IsFramedFor framed script None answers =
    (n : ℕ) → n < length script.spaces → IsFramed framed script n (answers_of script.steps answers n)
IsFramedFor framed script (Some n) answers = IsFramed framed script n answers

-- they are the answers of such a run, and so it is of them
abbrev pub IsRunFramed : Framed → Draft → Option ℕ → Answered → Type 0
IsRunFramed framed script only answered =
    (answers : List EventAnswer) × Holds script answered only answers × IsPlayedFor script only answers
    × IsFramedFor framed script only answers

-- the whole input is accepted; its lines, or those of the name that is chosen, have answers of which it is so; and exactly
-- their text was written
abbrev pub IsFramedText : Framed → Input → Input → Output → Output → Option (List ℕ) → Type 0
IsFramedText framed input rest old new name =
    IsJudged input rest (λ script. (only : Option ℕ) × (answers : List EventAnswer) × Names script name only
    × IsPlayedFor script only answers × IsWritten old new (text script answers only) × IsFramedFor framed script only answers)
