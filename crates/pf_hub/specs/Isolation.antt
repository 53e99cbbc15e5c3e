-- The isolation theorem: what each namespace is told is what its lone machine is told on its own steps alone.

use Rattle.std.specs.Prelude.{◌≡◌, ℕ, ◌≤◌, true, not, List, length, take, slice_get, Some, Option, None, ⊤}
use Rattle.std.specs.List.{position_from}
use Rattle.pf_base.specs.Limits.{Limits}
use Rattle.pf_machine.specs.Queue.{Segment}
use Rattle.pf_machine.specs.State.{State, opening}
use Rattle.pf_machine.specs.Machine.{may_want_memory}
use Rattle.pf_machine.specs.Runs.{run_of, lone}
use Rattle.pf_machine.specs.Events.{mine, kept, replies}
use Rattle.pf_machine.specs.Events.{IsAmple}
use Rattle.pf_base.specs.declared.step.Step.{Step}
use Rattle.pf_base.specs.declared.step.Answer.{Answer}
use Rattle.pf_base.specs.declared.step.Answer.TheVariants as answered
use Rattle.pf_hub.specs.Tenants.{Tenants, is_living, limits_at, state_at, frames_in}
use Rattle.pf_hub.specs.declared.hub.RunFault.{RunFault}
use Rattle.pf_hub.specs.declared.hub.RunFault.TheVariants.{NoSuchNamespace, NoMemory}

-- the place of the first event that names no namespace that lives
abbrev pub first_missing : Tenants → List (ℕ × Step) → Option ℕ
first_missing h events = position_from (λ e. not (is_living h e.0)) 0 events

-- the state that n's event at this place meets, where n began in this one: n's kept steps before it led there
abbrev pub met_at : Limits → State Segment ℕ → List (ℕ × Step) → List Answer → ℕ → ℕ → State Segment ℕ
met_at c begun events answers n place = (run_of c begun (kept (take place events) answers n)).state

-- no want without need: each step of n that memory was wanted for may want it, in the state that it met
abbrev pub NoWantWithoutNeed : Limits → State Segment ℕ → List (ℕ × Step) → List Answer → ℕ → Type 0
NoWantWithoutNeed c begun events answers n = (place : ℕ) (step : Step) →
    slice_get events place ≡ Some (n, step) → slice_get answers place ≡ Some answered.NoMemory →
    may_want_memory c (met_at c begun events answers n place) step ≡ true

-- an answer for each event; no namespace and no frame comes or goes; each namespace's replies and its end state are those of
-- the lone machine's run, from the state that it was in, on its own steps but for those that memory was
-- wanted for; and these are steps that may want it
pub record Ran (old : Tenants) (events : List (ℕ × Step)) (answers : List Answer) (new : Tenants) : Type 0 where
  pub number : length answers ≡ length events
  pub tenants : length new.tenants ≡ length old.tenants
  pub lives : (n : ℕ) → is_living new n ≡ is_living old n
  pub frames : frames_in new ≡ frames_in old
  pub limits : (n : ℕ) → limits_at new n ≡ limits_at old n
  pub own : (n : ℕ) → run_of (limits_at old n) (state_at old n) (kept events answers n)
      ≡ record { state = state_at new n; replies = replies events answers n }
  pub needed : (n : ℕ) → NoWantWithoutNeed (limits_at old n) (state_at old n) events answers n

-- a namespace that was at its opening state is told what its lone machine is told
abbrev pub AreAlone : Tenants → List (ℕ × Step) → List Answer → Type 0
AreAlone old events answers = (n : ℕ) → state_at old n ≡ opening →
    replies events answers n ≡ lone (limits_at old n) (kept events answers n)

-- refused before the first step, or the run of the events answered so far
abbrev pub IsRunFault : Tenants → List (ℕ × Step) → Tenants → RunFault → Type 0
IsRunFault old events new (NoSuchNamespace at) = (first_missing old events ≡ Some at) × (new ≡ old)
IsRunFault old events new (NoMemory answers) =
    (first_missing old events ≡ None)
    × (length answers.items ≤ length events)
    × Ran old (take (length answers.items) events) answers.items new

-- Two worlds, of which a premise holds: where two hubs give n the same limits at its opening state, and two lists of
-- events have the same steps of n, n is told the same, whatever the others do
abbrev pub TwoWorldsWhere : (List (ℕ × Step) → List Answer → ℕ → Type 0) → Type 0
TwoWorldsWhere premise =
    (first second : Tenants) (es fs : List (ℕ × Step)) (as' bs : List Answer) (first' second' : Tenants) (n : ℕ) →
    Ran first es as' first' → Ran second fs bs second' →
    state_at first n ≡ opening → state_at second n ≡ opening → limits_at first n ≡ limits_at second n →
    mine es n ≡ mine fs n → premise es as' n → premise fs bs n →
    replies es as' n ≡ replies fs bs n

-- it is so if no step of n met want of memory in either
abbrev pub TwoWorlds : Type 0
TwoWorlds = TwoWorldsWhere IsAmple

-- and not without this: the premise is needed
abbrev pub MemoryMatters : Type 0
MemoryMatters = ¬ TwoWorldsWhere (λ events answers n. ⊤)
