-- What holds over any frames of its own holds over its loans.
use Rattle.std.proofs.Common.{◌≡◌, subst}
use Rattle.pf_base.specs.Limits.{Limits}
use Rattle.pf_machine.specs.Queries.{can_go_on}
use Rattle.pf_depot.specs.Loans.{loans_live}
use Rattle.pf_depot.specs.Lent.{loans_sound}
use Rattle.pf_tables.specs.Meaning.{meaning}
use Rattle.pf_service.specs.Log.{Log}
use Rattle.pf_service.proofs.logged.Logged.can_go_on.Goals as goal

pub returns-clause-answer : goal.returns-clause-answer
returns-clause-answer g c =
    let own = c.self.inside in
    let says = c.can_go_on.ensures (loans_live own.loans) (loans_sound own.loans) c.self.invariant.owns in
    let given = subst (λ (l : Limits). c.can_go_on.result ≡ can_go_on l (meaning (loans_live own.loans) own.placed.space.state) c.args.pid) c.self.invariant.limits says in
    subst (λ (l : Log g.row.A.Denot). c.can_go_on.result ≡ can_go_on l.limits l.state c.args.pid) c.self.view_is given
