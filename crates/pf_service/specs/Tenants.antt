-- A namespace of a service that lives, or is retired.

use Rattle.std.specs.Prelude.{◌≡◌, ℕ, Bool, true, false, ◌<◌, ◌≤◌, ⊤, length}
use Rattle.pf_base.specs.declared.admission.RetireFault.{RetireFault}
use Rattle.pf_base.specs.declared.admission.RetireFault.TheVariants.{NoSuchNamespace, Alive}
use Rattle.pf_base.specs.declared.step.Reply.{Reply}
use Rattle.pf_base.specs.declared.step.Step.{Step}
use Rattle.pf_machine.specs.Processes.{alive}
use Rattle.pf_service.specs.Faults.{IsApplyFault}
use Rattle.pf_service.specs.Log.{Log, IsLogged}
use Rattle.pf_service.specs.Transcripts.{OneTranscript}
use Rattle.pf_service.specs.declared.TheConstants.{MAX_ENTRIES, MAX_SEATS}
use Rattle.pf_service.specs.declared.fault.ServiceFault.{ServiceFault}
use Rattle.pf_service.specs.declared.fault.ServiceFault.TheVariants.{TooManySeats, Gone}
use Rattle.pf_service.specs.declared.living.Living.{Living as OneLiving}
use Rattle.pf_service.specs.declared.seated.Seated.{Seated as OneSeated}
use Rattle.pf_service.specs.declared.seated.Tenant.{Tenant}
use Rattle.pf_service.specs.declared.seated.Tenant.TheVariants.{Living, Retired}
use Rattle.pf_service.specs.Woken.{is_idle}

-- it lives
abbrev pub Lives : {A C H : Type 0} → Tenant (OneLiving A C H) → Type 0
Lives (Living l) = Unit {0}
Lives (Retired t) = ⊥

-- what it was asked and told
abbrev pub transcript_of : {A C H : Type 0} → Tenant (OneLiving A C H) → OneTranscript
transcript_of (Living l) = record { limits = l.logged.limits; entries = l.logged.transcript }
transcript_of (Retired t) = t

-- why it gives no seat, where so many were given: that it is retired comes first
abbrev pub IsGiveFault : {A C H : Type 0} → Tenant (OneLiving A C H) → ℕ → ServiceFault → Type 0
IsGiveFault (Living l) given fault = (fault ≡ TooManySeats) × (MAX_SEATS ≤ given)
IsGiveFault (Retired t) given fault = fault ≡ Gone

-- what lay behind a lock when it was taken lives, and had given as many seats as this number says
abbrev pub IsGivenThere : {A C H : Type 0} → (OneSeated A C H → Type 0) → ℕ → Type 0
IsGivenThere {A} {C} {H} Lay number = (s : OneSeated A C H) × Lay s × Lives s.tenant × (number ≡ s.given)

-- it gave none, because of what lay there
abbrev pub IsNotGivenThere : {A C H : Type 0} → (OneSeated A C H → Type 0) → ServiceFault → Type 0
IsNotGivenThere {A} {C} {H} Lay fault = (s : OneSeated A C H) × Lay s × IsGiveFault s.tenant s.given fault

-- why an event is refused: that it is retired comes first
abbrev pub IsTenantFault : {A C H : Type 0} → Tenant (OneLiving A C H) → ServiceFault → Type 0
IsTenantFault (Living l) fault = IsApplyFault l.logged.transcript fault
IsTenantFault (Retired t) fault = fault ≡ Gone

-- nothing has happened to it: what is known of a living one is as it was, and so is what stays of a retired one
abbrev pub IsSameTenant : {A C H : Type 0} → Tenant (OneLiving A C H) → Tenant (OneLiving A C H) → Type 0
IsSameTenant (Living l) (Living m) = m.logged ≡ l.logged
IsSameTenant (Retired t) (Retired u) = u ≡ t
IsSameTenant _ _ = ⊥

-- this is the one that lives there
abbrev pub IsLivingAt : {A C H : Type 0} → Tenant (OneLiving A C H) → Log A → Type 0
IsLivingAt (Living l) log = log ≡ l.logged
IsLivingAt (Retired t) log = ⊥

-- why it isn't asked: that it is retired
abbrev pub IsGoneFault : {A C H : Type 0} → Tenant (OneLiving A C H) → ServiceFault → Type 0
IsGoneFault (Living l) fault = ⊥
IsGoneFault (Retired t) fault = fault ≡ Gone

-- one event happened to it: at this place, the next one of a transcript that wasn't full, and nothing else
abbrev pub IsEvent : {A C H : Type 0} → Tenant (OneLiving A C H) → Tenant (OneLiving A C H) → Step → ℕ → Reply → Type 0
IsEvent (Living l) (Living m) step place reply =
    (place ≡ length l.logged.transcript) × (place < MAX_ENTRIES) × IsLogged l.logged m.logged step reply
IsEvent _ _ _ _ _ = ⊥

-- where it holds more frames than before, a gate was told
abbrev pub IsToldOfMore : {A C H : Type 0} → Type 0 → Tenant (OneLiving A C H) → Tenant (OneLiving A C H) → Type 0
IsToldOfMore Framed (Living l) (Living m) = l.logged.held < m.logged.held → Framed
IsToldOfMore Framed _ _ = ⊤

-- one that lived, with no process, is retired: its limits and its transcript stay, and nothing else
abbrev pub IsRetirement : {A C H : Type 0} → Tenant (OneLiving A C H) → Tenant (OneLiving A C H) → Type 0
IsRetirement (Living l) (Retired t) = (alive l.logged.state ≡ 0) × (t ≡ transcript_of (Living l))
IsRetirement _ _ = ⊥

-- it gave back what it had at the depot: its reservation, and its stock
abbrev pub IsReturned : {A C H : Type 0} → (ℕ → ℕ → Type 0) → Tenant (OneLiving A C H) → Type 0
IsReturned Returned (Living l) = Returned l.logged.limits.reserve l.stock
IsReturned Returned (Retired t) = ⊥

-- an event there is of no use to whoever waits
abbrev pub is_idle_at : {A C H : Type 0} → Tenant (OneLiving A C H) → Tenant (OneLiving A C H) → Step → Reply → Bool
is_idle_at (Living l) (Living m) step reply = is_idle l.logged.state m.logged.state step reply
is_idle_at _ _ _ _ = false

-- what lies behind a lock, where this became of the namespace there; all else is as it was
abbrev pub became : {A C H : Type 0} → OneSeated A C H → Tenant (OneLiving A C H) → OneSeated A C H
became old new = record old { tenant = new }

-- the same, as if somebody waited there
abbrev pub became_awaited : {A C H : Type 0} → OneSeated A C H → Tenant (OneLiving A C H) → OneSeated A C H
became_awaited old new = record old { tenant = new; is_awaited = true }

-- one event happened to what lay behind a lock when it was taken; with what became of it those who wait there were
-- woken, but for an event that is of no use to them; and where it holds more frames than before, a gate was told
abbrev pub IsHappening : {A C H : Type 0} → (OneSeated A C H → Type 0) → (OneSeated A C H → Type 0) → Type 0
    → Step → ℕ → Reply → Type 0
IsHappening {A} {C} {H} Lay Woken Framed step place reply =
    (old : OneSeated A C H) × (new : Tenant (OneLiving A C H)) × Lay old × IsEvent old.tenant new step place reply
    × (is_idle_at old.tenant new step reply ≡ false → Woken (became old new))
    × IsToldOfMore Framed old.tenant new

-- why it isn't retired
abbrev pub IsRetireFault : {A C H : Type 0} → Tenant (OneLiving A C H) → RetireFault → Type 0
IsRetireFault (Living l) fault = (fault ≡ Alive (alive l.logged.state)) × (0 < alive l.logged.state)
IsRetireFault (Retired t) fault = fault ≡ NoSuchNamespace

-- what lay behind a lock when it was taken is retired, and gave back what it had at the depot; with what stays of it
-- all who wait there were woken, whether or not anybody was known to
abbrev pub IsRetiredThere : {A C H : Type 0} → (OneSeated A C H → Type 0) → (OneSeated A C H → Type 0)
    → (ℕ → ℕ → Type 0) → Type 0
IsRetiredThere {A} {C} {H} Lay Woken Returned =
    (old : OneSeated A C H) × (new : Tenant (OneLiving A C H)) × Lay old × IsRetirement old.tenant new
    × IsReturned Returned old.tenant × Woken (became_awaited old new)

-- it isn't, because of what lay there
abbrev pub IsNotRetiredThere : {A C H : Type 0} → (OneSeated A C H → Type 0) → RetireFault → Type 0
IsNotRetiredThere {A} {C} {H} Lay fault = (old : OneSeated A C H) × Lay old × IsRetireFault old.tenant fault
