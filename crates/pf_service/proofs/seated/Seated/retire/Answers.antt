-- The one that lived there, which had no process, is retired.
use Rattle.std.proofs.Common.{◌≡◌, ℕ, ◌<◌, sym, ap, ◌∙◌, subst, arith}
use Rattle.pf_base.specs.declared.admission.RetireFault.TheVariants.{Alive}
use Rattle.pf_machine.specs.Processes.{alive}
use Rattle.pf_service.specs.declared.living.Living.{Living as OneLiving}
use Rattle.pf_service.specs.declared.seated.Tenant.{Tenant}
use Rattle.pf_service.specs.declared.seated.Tenant.TheVariants.{Living, Retired}
use Rattle.pf_service.specs.Log.{Log}
use Rattle.pf_service.specs.Tenants.{IsRetirement, IsReturned, IsRetireFault, transcript_of}
use Rattle.pf_service.specs.Transcripts.{OneTranscript}
use Rattle.pf_service.proofs.seated.Seated.retire.Goals as goal

retired : {A C H : Type 0} (t t' : Tenant (OneLiving A C H)) (l m : OneLiving A C H) (stays : OneTranscript)
    → t ≡ Living l → alive l.logged.state ≡ 0 → Living m ≡ t → stays ≡ transcript_of (Living m) → t' ≡ Retired stays
    → IsRetirement t t'
retired {A} {C} {H} t t' l m stays is none same kept put =
    subst (λ (x : Tenant (OneLiving A C H)). IsRetirement x t') (sym is)
    (subst (IsRetirement (Living l)) (sym put) (none, kept ∙ ap transcript_of (same ∙ is)))

alive_there : {A C H : Type 0} (t : Tenant (OneLiving A C H)) (l : OneLiving A C H) (log : Log A) (n : ℕ)
    → t ≡ Living l → log ≡ l.logged → n ≡ alive log.state → 0 < n → IsRetireFault t (Alive n)
alive_there {A} {C} {H} t l log n is at counted some =
    let so : n ≡ alive l.logged.state = counted ∙ ap (λ (g : Log A). alive g.state) at in
    subst (λ (x : Tenant (OneLiving A C H)). IsRetireFault x (Alive n)) (sym is) (ap Alive so, omega (arith, so, some))

pub returns-then-processes-gt0-clause-fault : goal.returns-then-processes-gt0-clause-fault
returns-then-processes-gt0-clause-fault g c =
    alive_there _ c.in-Living.living c.get_ref.result.now _ c.in-Living.is c.get_ref.ensures
    c.processes-processes.ensures.number c.if-processes-gt0.true

pub returns-clause-retired : goal.returns-clause-retired
returns-clause-retired g c =
    let at = ap (λ (l : Log g.row.A.Denot). alive l.state) c.get_ref.ensures in
    retired _ _ c.in-Living.living c.in-Living-replace.living c.retire.result c.in-Living.is
    (omega (arith, c.processes-processes.ensures.number, at)) c.in-Living-replace.ensures.value c.retire.ensures.kept
    c.put.ensures

pub returns-clause-returned : goal.returns-clause-returned
returns-clause-returned g c =
    let m = c.in-Living-replace.living in
    let gave : g.D.Returns.returned c.args.way.now c.args.ns m.logged.limits.reserve m.stock = assumption in
    subst (IsReturned (λ reserve stock. g.D.Returns.returned c.args.way.now c.args.ns reserve stock))
    c.in-Living-replace.ensures.value gave

pub returns-clause-woken : goal.returns-clause-woken
returns-clause-woken g c = assumption

pub returns-clause-given : goal.returns-clause-given
returns-clause-given g c = assumption
