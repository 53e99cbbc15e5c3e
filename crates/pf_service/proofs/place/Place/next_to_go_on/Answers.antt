-- Whoever waits at this place is who was handed on.
use Rattle.std.proofs.Common.{subst}
use Rattle.std.specs.Prelude.{IfErr, IfOk}
use Rattle.pf_machine.specs.Queries.{IsNext}
use Rattle.pf_service.specs.declared.seated.Seated.{Seated as OneSeated}
use Rattle.pf_service.specs.Asked.{IsGoneThere, IsOfOneThere}
use Rattle.pf_service.specs.Places.{OnePlace}
use Rattle.pf_service.proofs.place.Place.next_to_go_on.Goals as goal

pub returns-clause-answer : goal.returns-clause-answer
returns-clause-answer g c =
    let S : Type 0 = OneSeated g.row.A.Denot g.row.C.Denot g.row.H.Denot in
    let Lay : g.row.W.Denot → S → Type 0
    = λ next s. g.W.Waiters.lay next g.row.A.Denot g.row.C.Denot g.row.H.Denot s in
    subst (λ (p : OnePlace g.row.W.Denot). IfOk c.next_to_go_on_at.result (λ next. IsOfOneThere (Lay p.next)
    (λ log. IsNext log.limits log.state c.args.after next)))
    c.self.view_is c.next_to_go_on_at.ensures.answer

pub returns-clause-fault : goal.returns-clause-fault
returns-clause-fault g c =
    let S : Type 0 = OneSeated g.row.A.Denot g.row.C.Denot g.row.H.Denot in
    let Lay : g.row.W.Denot → S → Type 0
    = λ next s. g.W.Waiters.lay next g.row.A.Denot g.row.C.Denot g.row.H.Denot s in
    subst (λ (p : OnePlace g.row.W.Denot). IfErr c.next_to_go_on_at.result (IsGoneThere (Lay p.next)))
    c.self.view_is c.next_to_go_on_at.ensures.fault
