-- What lay behind the lock gave the seat, or is why none was given.
use Rattle.std.proofs.Common.{◌∙◌, subst}
use Rattle.std.specs.Prelude.{IfErr}
use Rattle.pf_service.specs.declared.seated.Seated.{Seated as OneSeated}
use Rattle.pf_service.specs.Places.{OnePlace}
use Rattle.pf_service.specs.Tenants.{IsGivenThere, IsNotGivenThere}
use Rattle.pf_service.proofs.LockLaws.{given_there, lay_at, not_given_there}
use Rattle.pf_service.proofs.place.Place.seat.Goals as goal

pub returns-clause-given : goal.returns-clause-given
returns-clause-given g c =
    let S : Type 0 = OneSeated g.row.A.Denot g.row.C.Denot g.row.H.Denot in
    let Lay : g.row.W.Denot → S → Type 0
    = λ next s. g.W.Waiters.lay next g.row.A.Denot g.row.C.Denot g.row.H.Denot s in
    subst (λ (p : OnePlace g.row.W.Denot). IsGivenThere (Lay p.next) c.new.result.number) c.self.view_is
    (given_there (Lay c.self.inside.next) c.deref_mut.result.now _
    (lay_at (Lay c.self.inside.next) _ _ c.deref_mut.ensures.value c.lock.ensures) c.in_ok-number.ensures.lives
    (c.new.ensures.number ∙ c.in_ok-number.ensures.number.0))

pub returns-in_err-number-clause-fault : goal.returns-in_err-number-clause-fault
returns-in_err-number-clause-fault g c =
    let S : Type 0 = OneSeated g.row.A.Denot g.row.C.Denot g.row.H.Denot in
    let Lay : g.row.W.Denot → S → Type 0
    = λ next s. g.W.Waiters.lay next g.row.A.Denot g.row.C.Denot g.row.H.Denot s in
    subst (λ (p : OnePlace g.row.W.Denot). IfErr c.from_residual.result (IsNotGivenThere (Lay p.next))) c.self.view_is
    (not_given_there (Lay c.self.inside.next) c.deref_mut.result.now _ c.from_residual.result
    (lay_at (Lay c.self.inside.next) _ _ c.deref_mut.ensures.value c.lock.ensures) c.from_residual.ensures.1 c.in_err-number.ensures.fault)
