-- What lived there lives on, one event further; and with that behind the lock those who wait were woken.
use Rattle.std.proofs.Common.{◌≡◌, Bool, ◌∙◌, sym, subst, arith}
use Rattle.pf_base.specs.declared.step.Step.{Step}
use Rattle.pf_base.specs.declared.step.Reply.{Reply}
use Rattle.pf_service.specs.declared.living.Living.{Living as OneLiving}
use Rattle.pf_service.specs.declared.seated.Tenant.{Tenant}
use Rattle.pf_service.specs.declared.seated.Tenant.TheVariants.{Living}
use Rattle.pf_service.specs.Tenants.{IsEvent, IsToldOfMore, became, is_idle_at}
use Rattle.pf_service.proofs.place.event_of.Goals as goal

there : {A C H : Type 0} {t t' : Tenant (OneLiving A C H)} {l m : OneLiving A C H} → t ≡ Living l → t' ≡ Living m
    → (P : Tenant (OneLiving A C H) → Tenant (OneLiving A C H) → Type 0) → P (Living l) (Living m) → P t t'
there {A} {C} {H} {t} {t'} {l} was is P p =
    subst (λ (x : Tenant (OneLiving A C H)). P x t') (sym was) (subst (P (Living l)) (sym is) p)

pub returns-in-Ok-clause-event : goal.returns-in-Ok-clause-event
returns-in-Ok-clause-event g c =
    let r = c.in-Ok.receipt in
    there c.in-Living.is c.wake.ensures.tenant (λ s s'. IsEvent s s' c.args.step.now r.place r.reply)
    (c.in-Ok.ensures.place.1, omega (arith, c.in-Ok.ensures.place.1, c.in-Ok.ensures.room), c.in-Ok.ensures.logged)

pub returns-in-Ok-clause-framed : goal.returns-in-Ok-clause-framed
returns-in-Ok-clause-framed g c =
    there c.in-Living.is c.wake.ensures.tenant (IsToldOfMore (g.G.Gate.framed c.args.gate.now c.in-Ok.receipt.ns))
    c.in-Ok.ensures.framed

pub returns-in-Ok-clause-woken : goal.returns-in-Ok-clause-woken
returns-in-Ok-clause-woken g c = λ some_use.
    let r = c.in-Ok.receipt in
    let idle : c.event.new.idle ≡ is_idle_at c.args.seated.now.tenant c.wake.new.seated.tenant c.args.step.now r.reply =
    there c.in-Living.is c.wake.ensures.tenant (λ s s'. c.event.new.idle ≡ is_idle_at s s' c.args.step.now r.reply)
    c.in-Ok.ensures.idle in
    subst (λ (t : Tenant (OneLiving g.row.A.Denot g.row.C.Denot g.row.H.Denot)).
    g.W.Waiters.woken c.args.waiters.now g.row.A.Denot g.row.C.Denot g.row.H.Denot (became c.args.seated.now t))
    (sym c.wake.ensures.tenant) (c.wake.ensures.woken (idle ∙ some_use))

pub returns-in-Ok-clause-awaited : goal.returns-in-Ok-clause-awaited
returns-in-Ok-clause-awaited g c = λ no_use.
    let r = c.in-Ok.receipt in
    let idle : c.event.new.idle ≡ is_idle_at c.args.seated.now.tenant c.wake.new.seated.tenant c.args.step.now r.reply =
    there c.in-Living.is c.wake.ensures.tenant (λ s s'. c.event.new.idle ≡ is_idle_at s s' c.args.step.now r.reply)
    c.in-Ok.ensures.idle in
    c.wake.ensures.awaited (idle ∙ no_use)
