-- Who has no process owns no frame.
use Rattle.std.proofs.Common.{◌≡◌, subst}
use Rattle.pf_depot.specs.Loans.{loans_live}
use Rattle.pf_depot.specs.Lent.{loans_sound}
use Rattle.pf_service.specs.Log.{Log}
use Rattle.pf_service.proofs.logged.Logged.processes.Goals as goal

pub returns-clause-none : goal.returns-clause-none
returns-clause-none g c = λ nobody.
    let own = c.self.inside in
    subst (λ (l : Log g.row.A.Denot). l.held ≡ 0) c.self.view_is (c.processes.ensures.none nobody (loans_live own.loans) (loans_sound own.loans) c.self.invariant.owns)
