-- What a call answers, of what its parts do.

use Rattle.std.proofs.Common.{◌≡◌, ℕ, ◌<◌, List, sym, subst}
use Rattle.std.specs.Prelude.{Result, Ok, Err, IfOk, IfErr, IsErr, OnOk, OnErr}
use Rattle.pf_base.specs.declared.TheConstants.{MAX_NUMBERS}
use Rattle.pf_base.specs.declared.admission.RetireFault.{RetireFault}
use Rattle.pf_base.specs.declared.step.Step.{Step}
use Rattle.pf_base.specs.declared.step.Reply.{Reply}
use Rattle.pf_service.specs.declared.fault.ServiceFault.{ServiceFault}
use Rattle.pf_service.specs.declared.fault.ServiceFault.TheVariants.{NoMemory, TranscriptFull, NoSuchNamespace, TooManySeats, Gone}
use Rattle.pf_service.specs.declared.receipt.Receipt.{Receipt}
use Rattle.pf_service.specs.declared.living.Living.{Living as OneLiving}
use Rattle.pf_service.specs.declared.seated.Seated.{Seated as OneSeated}
use Rattle.pf_service.specs.declared.seated.Tenant.{Tenant}
use Rattle.pf_service.specs.declared.seated.Tenant.TheVariants.{Living, Retired}
use Rattle.pf_service.specs.Asked.{IsGoneThere}
use Rattle.pf_service.specs.Faults.{IsApplyFault, IsEventFault, IsCallFault, IsQueryFault, IsRetirementFault}
use Rattle.pf_service.specs.Tenants.{IsGiveFault, IsGoneFault, IsNotGivenThere, IsNotRetiredThere, IsRetiredThere, IsRetireFault, IsReturned, IsTenantFault}
use Rattle.pf_service.specs.Seats.{IsSeatFault}
use Rattle.pf_service.specs.Told.{Told}

-- without the entries
unseen : (es : List (Step × Reply)) (e : ServiceFault) → IsApplyFault es e → IsEventFault e
unseen es NoMemory fault = tt
unseen es TranscriptFull fault = tt
unseen es NoSuchNamespace fault = absurd fault
unseen es TooManySeats fault = absurd fault
unseen es Gone fault = absurd fault

-- without the namespace
pub unknown : {A C H : Type 0} (t : Tenant (OneLiving A C H)) (e : ServiceFault) → IsTenantFault t e → IsEventFault e
unknown (Living l) e fault = unseen l.logged.transcript e fault
unknown (Retired t) e fault = subst IsEventFault (sym fault) tt

-- of a namespace that is there
pub call_fault : {T : Type 0} (first ns : ℕ) (r : Result T ServiceFault) → ns < MAX_NUMBERS → IfErr r IsEventFault → IfErr r (IsCallFault first ns)
call_fault first ns (Ok x) there fault = tt
call_fault first ns (Err NoMemory) there fault = there
call_fault first ns (Err TranscriptFull) there fault = there
call_fault first ns (Err NoSuchNamespace) there fault = absurd fault
call_fault first ns (Err TooManySeats) there fault = absurd fault
call_fault first ns (Err Gone) there fault = there

-- it is retired
gone_is : {A C H : Type 0} (t : Tenant (OneLiving A C H)) (e : ServiceFault) → IsGoneFault t e → e ≡ Gone
gone_is (Living l) e gone = absurd gone
gone_is (Retired t) e gone = gone

pub gone_alone : {A C H T : Type 0} (Lay : OneSeated A C H → Type 0) (r : Result T ServiceFault)
    → IfErr r (IsGoneThere Lay) → IfErr r (λ e. e ≡ Gone)
gone_alone Lay (Ok x) gone = tt
gone_alone Lay (Err e) gone = gone_is gone.0.tenant e gone.2

-- and is there
pub gone_fault : {T : Type 0} (first ns : ℕ) (r : Result T ServiceFault)
    → ns < MAX_NUMBERS → IfErr r (λ e. e ≡ Gone) → IfErr r (IsQueryFault first ns)
gone_fault first ns (Ok x) there gone = tt
gone_fault first ns (Err e) there gone = subst (IsQueryFault first ns) (sym gone) there

-- why a seat isn't given there
seat_fault_of : {A C H : Type 0} (t : Tenant (OneLiving A C H)) (given first ns : ℕ) (e : ServiceFault) → ns < MAX_NUMBERS → IsGiveFault t given e → IsSeatFault first ns e
seat_fault_of (Living l) given first ns e there fault = subst (IsSeatFault first ns) (sym fault.0) there
seat_fault_of (Retired t) given first ns e there fault = subst (IsSeatFault first ns) (sym fault) there

pub seat_fault : {A C H T : Type 0} (Lay : OneSeated A C H → Type 0) (first ns : ℕ) (r : Result T ServiceFault)
    → ns < MAX_NUMBERS → IfErr r (IsNotGivenThere Lay) → IfErr r (IsSeatFault first ns)
seat_fault Lay first ns (Ok x) there fault = tt
seat_fault Lay first ns (Err e) there fault = seat_fault_of fault.0.tenant fault.0.given first ns e there fault.2

-- a receipt's namespace, beside what its caller is told
pub told_at : (ns place : ℕ) (step : Step) (r : Result Receipt ServiceFault) → IfOk r (λ x. (x.ns ≡ ns) × (x.place ≡ place))
    → IfOk r (λ x. Told step x.place x.reply) → IfOk r (λ x. (x.ns ≡ ns) × Told step x.place x.reply)
told_at ns place step (Ok x) at told = (at.0, told)
told_at ns place step (Err e) at told = tt

-- nothing is said of a value where there is an error
pub on_ok : {T E : Type 0} (P : Type 0) (r : Result T E) → IsErr r → OnOk r P
on_ok P (Ok x) is = absurd (cc)
on_ok P (Err e) is = tt

-- what is said of an error, where it is so
pub on_err : {T E : Type 0} (P : Type 0) (r : Result T E) → P → OnErr r P
on_err P (Ok x) p = tt
on_err P (Err e) p = p

-- of a namespace of which nothing is known
there_is : {A C H : Type 0} (Returned : ℕ → ℕ → Type 0) (t : Tenant (OneLiving A C H)) → IsReturned Returned t → (reserve : ℕ) × (stock : ℕ) × Returned reserve stock
there_is Returned (Living l) is = (l.logged.limits.reserve, l.stock, is)
there_is Returned (Retired t) is = absurd is

pub gave_back : {A C H T E : Type 0} (Lay Woken : OneSeated A C H → Type 0) (Returned : ℕ → ℕ → ℕ → Type 0) (n m : ℕ)
    (r : Result T E) → n ≡ m → OnOk r (IsRetiredThere Lay Woken (Returned n))
    → OnOk r ((reserve : ℕ) × (stock : ℕ) × Returned m reserve stock)
gave_back Lay Woken Returned n m (Ok x) at is =
    subst (λ (k : ℕ). (reserve : ℕ) × (stock : ℕ) × Returned k reserve stock) at
    (there_is (Returned n) is.0.tenant is.4)
gave_back Lay Woken Returned n m (Err e) at is = tt

stays : {A C H : Type 0} (t : Tenant (OneLiving A C H)) (e : RetireFault) → IsRetireFault t e → IsRetirementFault e
stays (Living l) e fault = subst IsRetirementFault (sym fault.0) fault.1
stays (Retired t) e fault = subst IsRetirementFault (sym fault) tt

pub not_retired : {A C H T : Type 0} (Lay : OneSeated A C H → Type 0) (r : Result T RetireFault)
    → IfErr r (IsNotRetiredThere Lay) → IfErr r IsRetirementFault
not_retired Lay (Ok x) fault = tt
not_retired Lay (Err e) fault = stays fault.0.tenant e fault.2
