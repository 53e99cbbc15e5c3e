-- Whoever waits at this place is who was handed on.
use Rattle.std.proofs.Common.{List, subst}
use Rattle.std.specs.Prelude.{IfErr, OnErr, OnOk}
use Rattle.pf_service.specs.declared.event.Event.{Event}
use Rattle.pf_service.specs.declared.seated.Seated.{Seated as OneSeated}
use Rattle.pf_service.specs.Places.{OnePlace}
use Rattle.pf_service.specs.Said.{IsRefusedThere, IsSaid, IsWaitedFor}
use Rattle.pf_service.specs.Waited.{AreParked, IsAnswered, IsWaited}
use Rattle.pf_service.proofs.place.Place.call_waiting.Goals as goal

pub returns-clause-waited : goal.returns-clause-waited
returns-clause-waited g c =
    let S : Type 0 = OneSeated g.row.A.Denot g.row.C.Denot g.row.H.Denot in
    let Lay : g.row.W.Denot → S → Type 0
    = λ next s. g.W.Waiters.lay next g.row.A.Denot g.row.C.Denot g.row.H.Denot s in
    let Woken : g.row.W.Denot → S → Type 0
    = λ next s. g.W.Waiters.woken next g.row.A.Denot g.row.C.Denot g.row.H.Denot s in
    let WentOn : g.row.W.Denot → S → S → Type 0
    = λ next s t. g.W.Waiters.went_on next g.row.A.Denot g.row.C.Denot g.row.H.Denot s t in
    subst (λ (p : OnePlace g.row.W.Denot). (es : List Event)
    × IsWaited (IsSaid (g.G.Gate.passed c.args.gate.now) (g.G.Gate.framed c.args.gate.now)
    (Lay p.next) (Woken p.next) c.args.seat.now.ns)
    c.args.step.now c.args.seat.now c.wait_at.new.seat c.args.receipts.now.items c.wait_at.new.receipts.items es
    × IsWaitedFor (WentOn p.next) (Lay p.next) es
    × OnOk c.wait_at.result (IsAnswered es) × OnErr c.wait_at.result (AreParked es))
    c.self.view_is c.wait_at.ensures.waited

pub returns-clause-fault : goal.returns-clause-fault
returns-clause-fault g c =
    let S : Type 0 = OneSeated g.row.A.Denot g.row.C.Denot g.row.H.Denot in
    let Lay : g.row.W.Denot → S → Type 0
    = λ next s. g.W.Waiters.lay next g.row.A.Denot g.row.C.Denot g.row.H.Denot s in
    subst (λ (p : OnePlace g.row.W.Denot). IfErr c.wait_at.result (IsRefusedThere (Lay p.next)))
    c.self.view_is c.wait_at.ensures.fault
