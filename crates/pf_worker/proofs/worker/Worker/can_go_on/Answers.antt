-- What holds over any frames of its own holds over its loans.
use Rattle.std.proofs.Common.{◌≡◌, ap, subst}
use Rattle.pf_machine.specs.Queries.{can_go_on}
use Rattle.pf_depot.specs.Loans.{loans_live}
use Rattle.pf_depot.specs.Lent.{loans_sound}
use Rattle.pf_hub.specs.Tenants.{Tenant}
use Rattle.pf_worker.specs.Workers.{OneWorker}
use Rattle.pf_worker.proofs.worker.Worker.can_go_on.Goals as goal

pub returns : goal.returns
returns g c =
    subst (λ (t : Tenant). c.can_go_on.result ≡ can_go_on t.limits t.state c.args.pid) (ap (λ (w : OneWorker g.row.A.Denot). w.tenant) c.self.view_is)
    (c.can_go_on.ensures (loans_live c.self.inside.loans) (loans_sound c.self.inside.loans) c.self.invariant.owns)
