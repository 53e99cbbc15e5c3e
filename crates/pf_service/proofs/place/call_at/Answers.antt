-- What lay behind the lock is what the event happened to, or why it was refused.
use Rattle.std.specs.Prelude.{ℕ}
use Rattle.pf_service.specs.declared.seated.Seated.{Seated as OneSeated}
use Rattle.pf_service.proofs.LockLaws.{lay_at, happened_by, refused_there}
use Rattle.pf_service.proofs.place.call_at.Goals as goal

pub returns-clause-happened : goal.returns-clause-happened
returns-clause-happened g c =
    let Lay : OneSeated g.row.A.Denot g.row.C.Denot g.row.H.Denot → Type 0
    = λ s. g.W.Waiters.lay c.args.waiters.now g.row.A.Denot g.row.C.Denot g.row.H.Denot s in
    let Framed : ℕ → Type 0 = λ n. g.G.Gate.framed c.args.gate.now n in
    let Woken : OneSeated g.row.A.Denot g.row.C.Denot g.row.H.Denot → Type 0
    = λ s. g.W.Waiters.woken c.args.waiters.now g.row.A.Denot g.row.C.Denot g.row.H.Denot s in
    happened_by Lay Woken Framed c.deref_mut.result.now _ c.args.step.now c.event_of.result
    (lay_at Lay _ _ c.deref_mut.ensures.value c.lock-seated.ensures) c.event_of.ensures.event c.event_of.ensures.woken c.event_of.ensures.framed

pub returns-clause-fault : goal.returns-clause-fault
returns-clause-fault g c =
    let Lay : OneSeated g.row.A.Denot g.row.C.Denot g.row.H.Denot → Type 0
    = λ s. g.W.Waiters.lay c.args.waiters.now g.row.A.Denot g.row.C.Denot g.row.H.Denot s in
    refused_there Lay c.deref_mut.result.now c.event_of.result
    (lay_at Lay _ _ c.deref_mut.ensures.value c.lock-seated.ensures) c.event_of.ensures.fault
