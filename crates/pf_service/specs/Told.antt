-- What a caller is told.

use Rattle.std.specs.Prelude.{◌≡◌, ℕ, List, ◌++◌, [], ◌∷◌, length, drop}
use Rattle.pf_base.specs.Limits.{Limits}
use Rattle.pf_machine.specs.Queue.{Segment}
use Rattle.pf_machine.specs.State.{State, opening}
use Rattle.pf_machine.specs.Runs.{lone, run_of}
use Rattle.pf_base.specs.declared.step.Step.{Step}
use Rattle.pf_base.specs.declared.step.Reply.{Reply}

-- the reply is the last one of the lone machine, under these limits, on as many steps as the place says and this one
pub record ToldBy (limits : Limits) (before : List Step) (step : Step) (place : ℕ) (reply : Reply) : Type 0 where
  pub number : length before ≡ place
  pub last : drop place (lone limits (before ++ step ∷ [])) ≡ reply ∷ []

-- so for some limits and steps
abbrev pub Told : Step → ℕ → Reply → Type 0
Told step place reply = (limits : Limits) × (before : List Step) × ToldBy limits before step place reply

-- so it is of the state that the lone machine is in, under some limits and after some steps
abbrev pub IsAfterSome : (Limits → State Segment ℕ → Type 0) → Type 0
IsAfterSome Is = (limits : Limits) × (steps : List Step) × Is limits (run_of limits opening steps).state
