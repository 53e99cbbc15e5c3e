-- What holds over any frames of its own holds over its loans.
use Rattle.std.proofs.Common.{◌≡◌, subst}
use Rattle.pf_machine.specs.Queries.{readiness}
use Rattle.pf_depot.specs.Loans.{loans_live}
use Rattle.pf_depot.specs.Lent.{loans_sound}
use Rattle.pf_service.specs.Log.{Log}
use Rattle.pf_service.proofs.logged.Logged.readiness.Goals as goal

pub returns-clause-answer : goal.returns-clause-answer
returns-clause-answer g c =
    let own = c.self.inside in
    subst (λ (l : Log g.row.A.Denot). c.readiness.result ≡ readiness l.state c.args.pid c.args.fd) c.self.view_is
    (c.readiness.ensures (loans_live own.loans) (loans_sound own.loans) c.self.invariant.owns)
