-- What holds over any frames of its own holds over its loans.
use Rattle.std.proofs.Common.{subst}
use Rattle.pf_base.specs.Limits.{Limits}
use Rattle.pf_machine.specs.Queries.{IsNext}
use Rattle.pf_depot.specs.Loans.{loans_live}
use Rattle.pf_depot.specs.Lent.{loans_sound}
use Rattle.pf_tables.specs.Meaning.{meaning}
use Rattle.pf_service.specs.Log.{Log}
use Rattle.pf_service.proofs.logged.Logged.next_to_go_on.Goals as goal

pub returns-clause-answer : goal.returns-clause-answer
returns-clause-answer g c =
    let own = c.self.inside in
    let says = c.next_to_go_on.ensures (loans_live own.loans) (loans_sound own.loans) c.self.invariant.owns in
    let given = subst (λ (l : Limits). IsNext l (meaning (loans_live own.loans) own.placed.space.state) c.args.after c.next_to_go_on.result) c.self.invariant.limits says in
    subst (λ (l : Log g.row.A.Denot). IsNext l.limits l.state c.args.after c.next_to_go_on.result) c.self.view_is given
