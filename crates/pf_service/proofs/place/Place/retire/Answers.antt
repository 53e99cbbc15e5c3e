-- What lay behind the lock went, under the number of the place, and whoever waits there was woken.
use Rattle.std.proofs.Common.{ℕ, subst}
use Rattle.std.specs.Prelude.{true, IfErr, OnOk}
use Rattle.pf_service.specs.declared.seated.Seated.{Seated as OneSeated}
use Rattle.pf_service.specs.Places.{OnePlace}
use Rattle.pf_service.specs.Tenants.{IsNotRetiredThere, IsRetiredThere}
use Rattle.pf_service.proofs.LockLaws.{lay_at, not_retired_there, retired_there}
use Rattle.pf_service.proofs.place.Place.retire.Goals as goal

pub returns-clause-retired : goal.returns-clause-retired
returns-clause-retired g c =
    let S : Type 0 = OneSeated g.row.A.Denot g.row.C.Denot g.row.H.Denot in
    let Lay : g.row.W.Denot → S → Type 0
    = λ next s. g.W.Waiters.lay next g.row.A.Denot g.row.C.Denot g.row.H.Denot s in
    let Returned : ℕ → ℕ → ℕ → Type 0 = λ n reserve stock. g.D.Returns.returned c.args.way.now n reserve stock in
    let here = lay_at (Lay c.self.inside.next) _ _ c.deref_mut.ensures.value c.lock-seated.ensures in
    let Woken : g.row.W.Denot → S → Type 0
    = λ next s. g.W.Waiters.woken next g.row.A.Denot g.row.C.Denot g.row.H.Denot s in
    subst (λ (p : OnePlace g.row.W.Denot).
    OnOk c.retire.result (IsRetiredThere (Lay p.next) (Woken p.next) (Returned p.ns))) c.self.view_is
    (retired_there (Lay c.self.inside.next) (Woken c.self.inside.next) (Returned c.self.inside.ns)
    c.deref_mut.result.now _ c.retire.result here c.retire.ensures.retired c.retire.ensures.returned
    c.retire.ensures.woken)

pub returns-clause-fault : goal.returns-clause-fault
returns-clause-fault g c =
    let S : Type 0 = OneSeated g.row.A.Denot g.row.C.Denot g.row.H.Denot in
    let Lay : g.row.W.Denot → S → Type 0
    = λ next s. g.W.Waiters.lay next g.row.A.Denot g.row.C.Denot g.row.H.Denot s in
    let here = lay_at (Lay c.self.inside.next) _ _ c.deref_mut.ensures.value c.lock-seated.ensures in
    subst (λ (p : OnePlace g.row.W.Denot). IfErr c.retire.result (IsNotRetiredThere (Lay p.next))) c.self.view_is
    (not_retired_there (Lay c.self.inside.next) c.deref_mut.result.now c.retire.result here c.retire.ensures.fault)
