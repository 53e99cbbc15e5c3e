-- What a hub's events are to the machine, and what they leave.

use Rattle.std.specs.Prelude.{◌≡◌, ℕ, ◌≤◌, List, [], ◌∷◌, ◌++◌, length, map, take, Option, Some, None}
use Rattle.pf_base.specs.declared.admission.AdmitFault.{AdmitFault}
use Rattle.pf_base.specs.declared.admission.EventAnswer.{EventAnswer}
use Rattle.pf_base.specs.declared.admission.EventAnswer.TheVariants as told
use Rattle.pf_base.specs.declared.admission.RetireFault.{RetireFault}
use Rattle.pf_base.specs.Limits.{Limits}
use Rattle.pf_depot.specs.Admission.{IsAdmitFault}
use Rattle.pf_machine.specs.Houses as houses
use Rattle.pf_machine.specs.Houses.{Stepping, Admitting, Retiring, Happen, AreOwn, AreAloneIn, admit_fault}
use Rattle.pf_machine.specs.Houses.{retire_fault}
use Rattle.pf_machine.specs.Numbered.{at, clear_at}
use Rattle.pf_hub.specs.Covered.{IsCovered}
use Rattle.pf_hub.specs.Opening.{new_tenant}
use Rattle.pf_hub.specs.Tenants.{Housed, held_at, house_of}
use Rattle.pf_hub.specs.declared.hub.events.Event.{Event}
use Rattle.pf_hub.specs.declared.hub.events.Event.TheVariants.{Step, Admit, Retire}
use Rattle.pf_hub.specs.declared.hub.events.EventFault.{EventFault}
use Rattle.pf_hub.specs.declared.hub.events.EventFault.TheVariants.{NoMemory}

-- what the machine sees of an event: all but the allocator of a namespace that comes
abbrev pub event_of : {Z : Type 0} → Event Z → houses.Event
event_of (Step n step) = Stepping n step
event_of (Admit limits allocator) = Admitting limits
event_of (Retire n) = Retiring n

abbrev pub events_of : {Z : Type 0} → List (Event Z) → List houses.Event
events_of events = map event_of events

-- one more namespace, under the next number: at its opening state, with its files in memory of this allocator, and no
-- frame moves. Every other is as it was
pub record Comes {Z : Type 0} (old new : Housed Z) (limits : Limits) (allocator : Z) : Type 0 where
  pub world : new.world ≡ record { tenants = old.world.tenants ++ Some (new_tenant limits) ∷ []; free = old.world.free }
  pub allocators : new.allocators ≡ old.allocators ++ Some allocator ∷ []

-- it is admitted under a number, or why not
abbrev pub IsAdmitted : {Z : Type 0} → Housed Z → Housed Z → Limits → Z → ℕ → Type 0
IsAdmitted old new limits allocator n =
    (admit_fault (house_of old.world) limits.reserve ≡ None)
    × (n ≡ length old.world.tenants)
    × Comes old new limits allocator

abbrev pub IsNotAdmitted : {Z : Type 0} → Housed Z → Housed Z → Limits → AdmitFault → Type 0
IsNotAdmitted old new limits fault =
    (new ≡ old) × IsAdmitFault (admit_fault (house_of old.world) limits.reserve) fault

-- one namespace less: it held no frame, so none moves. Every other is as it was
pub record Goes {Z : Type 0} (old new : Housed Z) (n : ℕ) : Type 0 where
  pub held : held_at old.world n ≡ 0
  pub world : new.world ≡ record { tenants = clear_at old.world.tenants n; free = old.world.free }
  pub allocators : new.allocators ≡ clear_at old.allocators n

-- it is retired, or why not
abbrev pub IsRetired : {Z : Type 0} → Housed Z → Housed Z → ℕ → Type 0
IsRetired old new n = (retire_fault (at (house_of old.world).guests n) ≡ None) × Goes old new n

abbrev pub IsNotRetired : {Z : Type 0} → Housed Z → Housed Z → ℕ → RetireFault → Type 0
IsNotRetired old new n fault = (new ≡ old) × (retire_fault (at (house_of old.world).guests n) ≡ Some fault)

-- the allocators after an event with this answer
abbrev pub allocators_by : {Z : Type 0} → Event Z → EventAnswer → List (Option Z) → List (Option Z)
allocators_by (Admit limits allocator) (told.Admitted n) zs = zs ++ Some allocator ∷ []
allocators_by (Admit limits allocator) (told.Answer answer) zs = zs
allocators_by (Admit limits allocator) told.Gone zs = zs
allocators_by (Admit limits allocator) (told.NotAdmitted fault) zs = zs
allocators_by (Admit limits allocator) told.Retired zs = zs
allocators_by (Admit limits allocator) (told.NotRetired fault) zs = zs
allocators_by (Retire n) told.Retired zs = clear_at zs n
allocators_by (Retire n) (told.Answer answer) zs = zs
allocators_by (Retire n) told.Gone zs = zs
allocators_by (Retire n) (told.Admitted m) zs = zs
allocators_by (Retire n) (told.NotAdmitted fault) zs = zs
allocators_by (Retire n) (told.NotRetired fault) zs = zs
allocators_by (Step n step) answer zs = zs

abbrev pub allocators_after : {Z : Type 0} → List (Option Z) → List (Event Z) → List EventAnswer → List (Option Z)
allocators_after zs [] answers = zs
allocators_after zs (e ∷ es) [] = zs
allocators_after zs (e ∷ es) (a ∷ answers) = allocators_after (allocators_by e a zs) es answers

-- Events happened in turn, each with its answer. So each namespace was told, from its admission to its retirement,
-- what its lone machine is told on its own steps alone, and is where that ended as long as it lives: the isolation
-- theorem
pub record RanEvents {Z : Type 0} (old : Housed Z) (events : List (Event Z)) (answers : List EventAnswer)
    (new : Housed Z) : Type 0 where
  pub happen : Happen (house_of old.world) (events_of events) answers (house_of new.world)
  pub own : AreOwn (house_of old.world) (events_of events) answers (house_of new.world)
  pub alone : AreAloneIn (house_of old.world) (events_of events) answers
  pub allocators : new.allocators ≡ allocators_after old.allocators events answers
  pub covered : IsCovered new.world

-- memory for the answers was refused: the run of the events answered so far
abbrev pub IsEventFault : {Z : Type 0} → Housed Z → List (Event Z) → Housed Z → EventFault → Type 0
IsEventFault old events new (NoMemory answers) =
    (length answers.items ≤ length events) × RanEvents old (take (length answers.items) events) answers.items new
