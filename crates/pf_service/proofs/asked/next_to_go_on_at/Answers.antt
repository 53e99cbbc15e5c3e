-- What lay behind the lock is what is asked, or why nothing is told.
use Rattle.pf_machine.specs.Queries.{IsNext}
use Rattle.pf_service.specs.declared.seated.Seated.{Seated as OneSeated}
use Rattle.pf_service.proofs.LockLaws.{gone_there, lay_at, of_one_there}
use Rattle.pf_service.proofs.LogLaws.{after_some}
use Rattle.pf_service.proofs.asked.next_to_go_on_at.Goals as goal

pub returns-clause-answer : goal.returns-clause-answer
returns-clause-answer g c =
    let Lay : OneSeated g.row.A.Denot g.row.C.Denot g.row.H.Denot → Type 0
    = λ s. g.W.Waiters.lay c.args.waiters.now g.row.A.Denot g.row.C.Denot g.row.H.Denot s in
    of_one_there Lay (λ log. IsNext log.limits log.state c.args.after c.next_to_go_on.result) c.deref.result.now c.in_ok-logged.logged.now
    (lay_at Lay _ _ c.deref.ensures c.lock-seated.ensures) c.in_ok-logged.ensures.living c.next_to_go_on.ensures.answer

pub returns-clause-after : goal.returns-clause-after
returns-clause-after g c =
    after_some (λ limits state. IsNext limits state c.args.after c.next_to_go_on.result) _ _ _ c.next_to_go_on.ensures.ran c.next_to_go_on.ensures.answer

pub returns-in_err-logged-clause-fault : goal.returns-in_err-logged-clause-fault
returns-in_err-logged-clause-fault g c =
    let Lay : OneSeated g.row.A.Denot g.row.C.Denot g.row.H.Denot → Type 0
    = λ s. g.W.Waiters.lay c.args.waiters.now g.row.A.Denot g.row.C.Denot g.row.H.Denot s in
    gone_there Lay c.deref.result.now _ c.from_residual.result
    (lay_at Lay _ _ c.deref.ensures c.lock-seated.ensures) c.from_residual.ensures.1 c.in_err-logged.ensures.fault
