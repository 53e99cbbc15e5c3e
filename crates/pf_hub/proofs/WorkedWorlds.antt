-- Two worlds that tell one namespace different things: the same spawn, for which memory was wanted in one of them.

use Rattle.std.specs.Prelude.{Some}
use Rattle.std.proofs.Common.{◌≡◌, ℕ, zero, suc, List, [], ◌∷◌, refl, arith, subst, true}
use Rattle.std.proofs.lemmas.Bool.{ne_eqb}
use Rattle.std.proofs.lemmas.Option.{same_Some}
use Rattle.pf_base.specs.Limits.{Limits}
use Rattle.pf_machine.specs.Machine.{step_of, may_want_memory}
use Rattle.pf_machine.specs.Runs.{run_of}
use Rattle.pf_machine.specs.Events.{kept, replies}
use Rattle.pf_machine.specs.State.{State, Outcome, opening, vacant}
use Rattle.pf_machine.specs.Queue.{Segment}
use Rattle.pf_base.specs.declared.step.Step.{Step}
use Rattle.pf_base.specs.declared.step.Step.TheVariants.{Spawn}
use Rattle.pf_base.specs.declared.step.Answer.TheVariants.{Done, NoMemory}
use Rattle.pf_hub.specs.Isolation.{Ran, NoWantWithoutNeed, MemoryMatters}
use Rattle.pf_hub.specs.Tenants.{Tenants, is_living, limits_at, state_at}

abbrev limits : Limits
limits = record { reserve = 0; soft = 0; hard = 0; max = 65536 }

abbrev spawn : Step
spawn = Spawn 5 5 18 []

abbrev told : Outcome Segment ℕ
told = step_of limits opening spawn

-- a hub of one namespace in this state
abbrev hub : State Segment ℕ → Tenants
hub s = record { tenants = Some (record { limits = limits; state = s; held = 0 }) ∷ []; free = 0 }

abbrev events : List (ℕ × Step)
events = (0, spawn) ∷ []

-- the step of an event may want memory at the opening
abbrev May : ℕ × Step → Type 0
May e = may_want_memory (limits_at (hub opening) e.0) (state_at (hub opening) e.0) e.1 ≡ true

-- since a pid is free there
spawned : May (0, spawn)
unfolding vacant
spawned = refl

-- both are runs, of the one step and of none
made : Ran (hub opening) events (Done told.reply ∷ []) (hub told.state)
made = record { number = refl; tenants = refl; lives = living; frames = refl; limits = same; own = own; needed = needed }
  where
    living : (n : ℕ) → is_living (hub told.state) n ≡ is_living (hub opening) n
    living zero = refl
    living (suc n) = refl

    same : (n : ℕ) → limits_at (hub told.state) n ≡ limits_at (hub opening) n
    same zero = refl
    same (suc n) = refl

    own : (n : ℕ) → run_of (limits_at (hub opening) n) (state_at (hub opening) n) (kept events (Done told.reply ∷ []) n) ≡ record { state = state_at (hub told.state) n; replies = replies events (Done told.reply ∷ []) n }
    own zero = refl
    own (suc n) = rw (ne_eqb 0 (suc n) (λ (e : 0 ≡ suc n). omega arith)) refl

    needed : (n : ℕ) →
        NoWantWithoutNeed (limits_at (hub opening) n) (state_at (hub opening) n) events (Done told.reply ∷ []) n
    needed n zero step at at' = absurd (cc)
    needed n (suc place) step at at' = absurd (cc)

refused : Ran (hub opening) events (NoMemory ∷ []) (hub opening)
refused = record { number = refl; tenants = refl; lives = λ n. refl; frames = refl; limits = λ n. refl; own = own; needed = needed }
  where
    own : (n : ℕ) → run_of (limits_at (hub opening) n) (state_at (hub opening) n) (kept events (NoMemory ∷ []) n) ≡ record { state = state_at (hub opening) n; replies = replies events (NoMemory ∷ []) n }
    own zero = refl
    own (suc n) = rw (ne_eqb 0 (suc n) (λ (e : 0 ≡ suc n). omega arith)) refl

    needed : (n : ℕ) →
        NoWantWithoutNeed (limits_at (hub opening) n) (state_at (hub opening) n) events (NoMemory ∷ []) n
    needed n zero step at at' = subst May (same_Some _ _ at) spawned
    needed n (suc place) step at at' = absurd (cc)

-- a reply in the one, and none in the other
pub memory_matters : MemoryMatters
memory_matters same =
    let both : told.reply ∷ [] ≡ [] = same (hub opening) (hub opening) events events (Done told.reply ∷ []) (NoMemory ∷ []) (hub told.state) (hub opening) 0 made refused refl refl refl refl tt tt in
    cc
