-- What lay behind a namespace's lock when it was taken, and what is said of an event by it.

use Rattle.std.proofs.Common.{◌≡◌, ℕ, List, ◌∷◌, [], ◌++◌, true, ap, sym, subst}
use Rattle.std.proofs.lemmas.List.{append_assoc, append-nil}
use Rattle.std.specs.Prelude.{false, Result, Ok, Err, IfOk, IfErr, IsErrAnd, OnOk}
use Rattle.pf_base.specs.declared.admission.RetireFault.{RetireFault}
use Rattle.pf_base.specs.declared.step.Step.{Step}
use Rattle.pf_base.specs.declared.step.Step.TheVariants.{Resume}
use Rattle.pf_base.specs.declared.step.Reply.{Reply}
use Rattle.pf_service.specs.declared.event.Event.{Event}
use Rattle.pf_service.specs.declared.fault.ServiceFault.{ServiceFault}
use Rattle.pf_service.specs.declared.living.Living.{Living as OneLiving}
use Rattle.pf_service.specs.declared.receipt.Receipt.{Receipt}
use Rattle.pf_service.specs.declared.seated.Seated.{Seated as OneSeated}
use Rattle.pf_service.specs.declared.seated.Tenant.{Tenant}
use Rattle.pf_service.specs.Asked.{IsGoneThere, IsOfOneThere}
use Rattle.pf_service.specs.Faults.{IsEventFault}
use Rattle.pf_service.specs.Log.{Log}
use Rattle.pf_service.specs.Said.{IsSaid, IsRefusedThere, IsWaitedFor}
use Rattle.pf_service.specs.Seats.{OneSeat}
use Rattle.pf_service.specs.Tenants.{IsEvent, IsGiveFault, IsGoneFault, IsGivenThere, IsHappening, IsLivingAt}
use Rattle.pf_service.specs.Tenants.{IsNotGivenThere, IsNotRetiredThere, IsRetiredThere, IsRetireFault, IsRetirement}
use Rattle.pf_service.specs.Tenants.{IsReturned, IsTenantFault, IsToldOfMore, Lives, became, became_awaited, is_idle_at}
use Rattle.pf_service.specs.Told.{Told}
use Rattle.pf_service.specs.Waited.{resume_of, Tries, IsWaited, IsTried}
use Rattle.pf_service.proofs.FaultLaws.{unknown}

module _ {A C H : Type 0} (Lay : OneSeated A C H → Type 0) where
  -- the same one, as it is lent
  pub lay_at : (s s' : OneSeated A C H) → s' ≡ s → Lay s → Lay s'
  lay_at s s' same lay = subst Lay (sym same) lay

  -- what happened to it
  pub happened : (Woken : OneSeated A C H → Type 0) (Framed : Type 0) (s : OneSeated A C H)
      (new : Tenant (OneLiving A C H)) (step : Step) (place : ℕ) (reply : Reply)
      → Lay s → IsEvent s.tenant new step place reply
      → (is_idle_at s.tenant new step reply ≡ false → Woken (became s new))
      → IsToldOfMore Framed s.tenant new
      → IsHappening Lay Woken Framed step place reply
  happened Woken Framed s new step place reply lay event woken framed = (s, new, lay, event, woken, framed)

  -- and where an event was made
  pub happened_by : (Woken : OneSeated A C H → Type 0) (Framed : ℕ → Type 0) (s : OneSeated A C H)
      (new : Tenant (OneLiving A C H)) (step : Step) (r : Result Receipt ServiceFault)
      → Lay s → IfOk r (λ e. IsEvent s.tenant new step e.place e.reply)
      → IfOk r (λ e. is_idle_at s.tenant new step e.reply ≡ false → Woken (became s new))
      → IfOk r (λ e. IsToldOfMore (Framed e.ns) s.tenant new)
      → IfOk r (λ e. IsHappening Lay Woken (Framed e.ns) step e.place e.reply)
  happened_by Woken Framed s new step (Ok e) lay event woken framed = happened Woken (Framed e.ns) s new step e.place e.reply lay event woken framed
  happened_by Woken Framed s new step (Err x) lay event woken framed = tt

  -- why an event was refused
  pub refused_there : {T : Type 0} (s : OneSeated A C H) (r : Result T ServiceFault)
      → Lay s → IfErr r (IsTenantFault s.tenant) → IfErr r (IsRefusedThere Lay)
  refused_there s (Ok x) lay fault = tt
  refused_there s (Err e) lay fault = (s, lay, fault)

  -- and where that is handed on
  pub handed_on : {T : Type 0} (s : OneSeated A C H) (e : ServiceFault) (r : Result T ServiceFault)
      → Lay s → IsErrAnd r (λ x. x ≡ e) → IsTenantFault s.tenant e → IfErr r (IsRefusedThere Lay)
  handed_on s e (Ok x) lay is fault = tt
  handed_on s e (Err x) lay is fault = (s, lay, subst (IsTenantFault s.tenant) (sym is) fault)

  -- an answer of what lives there
  pub of_one_there : (Is : Log A → Type 0) (s : OneSeated A C H) (log : Log A)
      → Lay s → IsLivingAt s.tenant log → Is log → IsOfOneThere Lay Is
  of_one_there Is s log lay lives is = (s, log, lay, lives, is)

  -- and why there is none
  pub gone_there : {T : Type 0} (s : OneSeated A C H) (e : ServiceFault) (r : Result T ServiceFault)
      → Lay s → IsErrAnd r (λ x. x ≡ e) → IsGoneFault s.tenant e → IfErr r (IsGoneThere Lay)
  gone_there s e (Ok x) lay is gone = tt
  gone_there s e (Err x) lay is gone = (s, lay, subst (IsGoneFault s.tenant) (sym is) gone)

  -- what gave a seat there
  pub given_there : (s : OneSeated A C H) (number : ℕ) → Lay s → Lives s.tenant → number ≡ s.given
      → IsGivenThere Lay number
  given_there s number lay lives is = (s, lay, lives, is)

  -- why no seat was given
  pub not_given_there : {T : Type 0} (s : OneSeated A C H) (e : ServiceFault) (r : Result T ServiceFault)
      → Lay s → IsErrAnd r (λ x. x ≡ e) → IsGiveFault s.tenant s.given e → IfErr r (IsNotGivenThere Lay)
  not_given_there s e (Ok x) lay is fault = tt
  not_given_there s e (Err x) lay is fault = (s, lay, subst (IsGiveFault s.tenant s.given) (sym is) fault)

  -- what was retired there
  pub retired_there : {T : Type 0} (Woken : OneSeated A C H → Type 0) (Returned : ℕ → ℕ → Type 0) (s : OneSeated A C H)
      (new : Tenant (OneLiving A C H)) (r : Result T RetireFault)
      → Lay s → OnOk r (IsRetirement s.tenant new) → OnOk r (IsReturned Returned s.tenant)
      → OnOk r (Woken (became_awaited s new)) → OnOk r (IsRetiredThere Lay Woken Returned)
  retired_there Woken Returned s new (Ok x) lay retired returned woken = (s, new, lay, retired, returned, woken)
  retired_there Woken Returned s new (Err e) lay retired returned woken = tt

  -- and why it wasn't
  pub not_retired_there : {T : Type 0} (s : OneSeated A C H) (r : Result T RetireFault)
      → Lay s → IfErr r (IsRetireFault s.tenant) → IfErr r (IsNotRetiredThere Lay)
  not_retired_there s (Ok x) lay fault = tt
  not_retired_there s (Err e) lay fault = (s, lay, fault)

  -- where nothing is known of what lay there
  pub fault_there : {T : Type 0} (r : Result T ServiceFault) → IfErr r (IsRefusedThere Lay) → IfErr r IsEventFault
  fault_there (Ok x) fault = tt
  fault_there (Err e) fault = unknown fault.0.tenant e fault.2

  module _ (Woken : OneSeated A C H → Type 0) where
    -- of one try of a process
    pub happened_at : (Framed : ℕ → Type 0) (ns ns' pid pid' place : ℕ) (reply : Reply) → ns ≡ ns' → pid ≡ pid'
        → IsHappening Lay Woken (Framed ns) (Resume pid) place reply → IsHappening Lay Woken (Framed ns') (Resume pid') place reply
    happened_at Framed ns ns' pid pid' place reply at who it =
        subst (λ (n : ℕ). IsHappening Lay Woken (Framed n) (Resume pid') place reply) at
        (subst (λ (n : ℕ). IsHappening Lay Woken (Framed ns) (Resume n) place reply) who it)

    -- besides what its caller is told
    pub said_of : (Passed : ℕ → ℕ → Type 0) (Framed : ℕ → Type 0) (ns : ℕ) (step : Step) (old new : OneSeat) (before after : List Receipt) (place : ℕ) (reply : Reply)
        → IsTried (λ s p r. Told s p r × Passed ns p) step old new before after place reply → IsHappening Lay Woken (Framed ns) step place reply
        → IsTried (IsSaid Passed Framed Lay Woken ns) step old new before after place reply
    said_of Passed Framed ns step old new before after place reply t it =
        record { gains = t.gains; receipts = t.receipts; says = (t.says, it) }

-- what each caller is told, and the gate, of all that is said

module _ {A C H : Type 0} (Passed : ℕ → ℕ → Type 0) (Framed : ℕ → Type 0)
    (Lay Woken : OneSeated A C H → Type 0) (ns : ℕ) where
  tries_alone : (step : Step) (es : List Event) → Tries (IsSaid Passed Framed Lay Woken ns) step es → Tries (λ s p r. Told s p r × Passed ns p) step es
  tries_alone step [] tries = tt
  tries_alone step (e ∷ es) tries = (tries.0, tries.1.0, tries.2, tries_alone (resume_of step) es tries.3)

  pub waited_alone : (step : Step) (old new : OneSeat) (before after : List Receipt) (es : List Event)
      → IsWaited (IsSaid Passed Framed Lay Woken ns) step old new before after es → IsWaited (λ s p r. Told s p r × Passed ns p) step old new before after es
  waited_alone step old new before after es w = record { gains = w.gains; receipts = w.receipts; tries = tries_alone step es w.tries }

-- What was waited for

-- of one try of a process
pub resumed : {A C H : Type 0} (old new : Tenant (OneLiving A C H)) (pid pid' place : ℕ) (reply : Reply) → pid ≡ pid'
    → IsEvent old new (Resume pid) place reply → IsEvent old new (Resume pid') place reply
resumed old new pid pid' place reply who event = subst (λ (n : ℕ). IsEvent old new (Resume n) place reply) who event

-- what lies behind a lock, with somebody known to wait
abbrev pub awaited : {A C H : Type 0} → OneSeated A C H → OneSeated A C H
awaited s = record s { is_awaited = true }

module _ {A C H : Type 0} (WentOn : OneSeated A C H → OneSeated A C H → Type 0) where
  -- as an event left it
  left_awaited : (s v : OneSeated A C H) → v.given ≡ s.given → awaited v ≡ became_awaited s v.tenant
  left_awaited s v same =
      ap (λ (n : ℕ). let x : OneSeated A C H = record { tenant = v.tenant; given = n; is_awaited = true } in x) same

  -- these events, and whatever further ones are waited for from here
  abbrev pub GoesOn : (OneSeated A C H → Type 0) → OneSeated A C H → List Event → Type 0
  GoesOn Lay v es = (more : List Event) → IsWaitedFor WentOn (WentOn (awaited v)) more → IsWaitedFor WentOn Lay (es ++ more)

  -- the first event
  pub begins : (Lay : OneSeated A C H → Type 0) (s v : OneSeated A C H) (e : Event)
      → Lay s → IsEvent s.tenant v.tenant e.step e.place e.reply → v.given ≡ s.given → GoesOn Lay v (e ∷ [])
  begins Lay s v e lay event given more rest =
      (s, v.tenant, lay, event, subst (λ (x : OneSeated A C H). IsWaitedFor WentOn (WentOn x) more) (left_awaited s v given) rest)

  -- a wait that began with what was lent there, and ended with what is lent then
  pub went_between : (x u y s : OneSeated A C H) → x ≡ u → s ≡ y → WentOn (awaited x) y → WentOn (awaited u) s
  went_between x u y s from to went =
      subst (λ (z : OneSeated A C H). WentOn (awaited z) s) from (subst (λ (z : OneSeated A C H). WentOn (awaited x) z) (sym to) went)

  -- one more, after a wait
  pub goes_on : (Lay : OneSeated A C H → Type 0) (u s v : OneSeated A C H) (es : List Event) (e : Event)
      → GoesOn Lay u es → WentOn (awaited u) s → IsEvent s.tenant v.tenant e.step e.place e.reply → v.given ≡ s.given
      → GoesOn Lay v (es ++ e ∷ [])
  goes_on Lay u s v es e so_far went event given more rest =
      let all = so_far (e ∷ more) (begins (WentOn (awaited u)) s v e went event given more rest) in
      subst (λ (xs : List Event). IsWaitedFor WentOn Lay xs) (sym (append_assoc es (e ∷ []) more)) all

  -- and no more
  pub stops : (Lay : OneSeated A C H → Type 0) (v : OneSeated A C H) (es : List Event) → GoesOn Lay v es → IsWaitedFor WentOn Lay es
  stops Lay v es so_far = subst (λ (xs : List Event). IsWaitedFor WentOn Lay xs) (append-nil es) (so_far [] tt)
