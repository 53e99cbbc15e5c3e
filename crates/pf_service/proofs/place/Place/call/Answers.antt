-- What an event is told is handed on as it is, and whoever waits at this place is who was handed on.
use Rattle.std.proofs.Common.{subst}
use Rattle.std.specs.Prelude.{IfErr, IfOk}
use Rattle.pf_service.specs.declared.seated.Seated.{Seated as OneSeated}
use Rattle.pf_service.specs.Places.{OnePlace}
use Rattle.pf_service.specs.Said.{IsRefusedThere}
use Rattle.pf_service.specs.Tenants.{IsHappening}
use Rattle.pf_service.proofs.place.Place.call.Goals as goal

pub returns-clause-kept : goal.returns-clause-kept
returns-clause-kept g c = rw (c.handed.ensures) c.call_at.ensures.kept

pub returns-clause-told : goal.returns-clause-told
returns-clause-told g c = rw (c.handed.ensures) c.call_at.ensures.told

pub returns-clause-passed : goal.returns-clause-passed
returns-clause-passed g c = rw (c.handed.ensures) c.call_at.ensures.passed

pub returns-clause-happened : goal.returns-clause-happened
returns-clause-happened g c =
    let S : Type 0 = OneSeated g.row.A.Denot g.row.C.Denot g.row.H.Denot in
    let Lay : g.row.W.Denot → S → Type 0
    = λ next s. g.W.Waiters.lay next g.row.A.Denot g.row.C.Denot g.row.H.Denot s in
    let Woken : g.row.W.Denot → S → Type 0
    = λ next s. g.W.Waiters.woken next g.row.A.Denot g.row.C.Denot g.row.H.Denot s in
    rw (c.handed.ensures)
    (subst (λ (p : OnePlace g.row.W.Denot). IfOk c.call_at.result (λ r. IsHappening (Lay p.next)
    (Woken p.next) (g.G.Gate.framed c.args.gate.now r.ns) c.args.step.now r.place r.reply))
    c.self.view_is c.call_at.ensures.happened)

pub returns-clause-fault : goal.returns-clause-fault
returns-clause-fault g c =
    let S : Type 0 = OneSeated g.row.A.Denot g.row.C.Denot g.row.H.Denot in
    let Lay : g.row.W.Denot → S → Type 0
    = λ next s. g.W.Waiters.lay next g.row.A.Denot g.row.C.Denot g.row.H.Denot s in
    rw (c.handed.ensures)
    (subst (λ (p : OnePlace g.row.W.Denot). IfErr c.call_at.result (IsRefusedThere (Lay p.next)))
    c.self.view_is c.call_at.ensures.fault)

pub returns-clause-refused : goal.returns-clause-refused
returns-clause-refused g c = rw (c.handed.ensures) c.call_at.ensures.refused
