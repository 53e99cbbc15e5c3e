-- What lay behind the lock is what is asked, or why nothing is told.
use Rattle.std.proofs.Common.{◌≡◌}
use Rattle.pf_machine.specs.Queries.{can_go_on}
use Rattle.pf_service.specs.declared.seated.Seated.{Seated as OneSeated}
use Rattle.pf_service.proofs.LockLaws.{gone_there, lay_at, of_one_there}
use Rattle.pf_service.proofs.LogLaws.{after_some}
use Rattle.pf_service.proofs.asked.can_go_on_at.Goals as goal

pub returns-clause-answer : goal.returns-clause-answer
returns-clause-answer g c =
    let Lay : OneSeated g.row.A.Denot g.row.C.Denot g.row.H.Denot → Type 0
    = λ s. g.W.Waiters.lay c.args.waiters.now g.row.A.Denot g.row.C.Denot g.row.H.Denot s in
    of_one_there Lay (λ log. c.can_go_on.result ≡ can_go_on log.limits log.state c.args.pid) c.deref.result.now c.in_ok-logged.logged.now
    (lay_at Lay _ _ c.deref.ensures c.lock-seated.ensures) c.in_ok-logged.ensures.living c.can_go_on.ensures.answer

pub returns-clause-after : goal.returns-clause-after
returns-clause-after g c =
    after_some (λ limits state. c.can_go_on.result ≡ can_go_on limits state c.args.pid) _ _ _ c.can_go_on.ensures.ran c.can_go_on.ensures.answer

pub returns-in_err-logged-clause-fault : goal.returns-in_err-logged-clause-fault
returns-in_err-logged-clause-fault g c =
    let Lay : OneSeated g.row.A.Denot g.row.C.Denot g.row.H.Denot → Type 0
    = λ s. g.W.Waiters.lay c.args.waiters.now g.row.A.Denot g.row.C.Denot g.row.H.Denot s in
    gone_there Lay c.deref.result.now _ c.from_residual.result
    (lay_at Lay _ _ c.deref.ensures c.lock-seated.ensures) c.from_residual.ensures.1 c.in_err-logged.ensures.fault
