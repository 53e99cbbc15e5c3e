-- What is said of each event of a call that waits.

use Rattle.std.specs.Prelude.{ℕ, List, [], ◌∷◌}
use Rattle.pf_base.specs.declared.step.Step.{Step}
use Rattle.pf_base.specs.declared.step.Reply.{Reply}
use Rattle.pf_service.specs.Tenants.{IsEvent, IsHappening, IsTenantFault, became_awaited}
use Rattle.pf_service.specs.Told.{Told}
use Rattle.pf_service.specs.declared.event.Event.{Event}
use Rattle.pf_service.specs.declared.fault.ServiceFault.{ServiceFault}
use Rattle.pf_service.specs.declared.living.Living.{Living as OneLiving}
use Rattle.pf_service.specs.declared.seated.Seated.{Seated as OneSeated}
use Rattle.pf_service.specs.declared.seated.Tenant.{Tenant}

-- its caller is told the lone machine's reply, the gate was told of it, and it happened to what lay behind the lock, where
-- those who wait were woken; of its frames the gate was told too
abbrev pub IsSaid : {A C H : Type 0} → (ℕ → ℕ → Type 0) → (ℕ → Type 0) → (OneSeated A C H → Type 0)
    → (OneSeated A C H → Type 0) → ℕ → Step → ℕ → Reply → Type 0
IsSaid Passed Framed Lay Woken ns step place reply =
    (Told step place reply × Passed ns place) × IsHappening Lay Woken (Framed ns) step place reply

-- the first of these events happened to one of those; and each further one to what lay behind the lock when a wait went
-- on, which had begun with what the one before it left there, where it was known that somebody waits
abbrev pub IsWaitedFor : {A C H : Type 0} → (OneSeated A C H → OneSeated A C H → Type 0) → (OneSeated A C H → Type 0)
    → List Event → Type 0
IsWaitedFor {A} {C} {H} WentOn Lay [] = Unit {0}
IsWaitedFor {A} {C} {H} WentOn Lay (e ∷ es) =
    (old : OneSeated A C H) × (new : Tenant (OneLiving A C H)) × Lay old
    × IsEvent old.tenant new e.step e.place e.reply × IsWaitedFor WentOn (WentOn (became_awaited old new)) es

-- an event was refused because of what lay behind the lock
abbrev pub IsRefusedThere : {A C H : Type 0} → (OneSeated A C H → Type 0) → ServiceFault → Type 0
IsRefusedThere {A} {C} {H} Lay fault = (old : OneSeated A C H) × Lay old × IsTenantFault old.tenant fault
