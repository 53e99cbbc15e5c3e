-- What holds over any frames of its own holds over its loans.
use Rattle.std.proofs.Common.{◌≡◌, ap, subst}
use Rattle.pf_machine.specs.Queries.{readiness}
use Rattle.pf_depot.specs.Loans.{loans_live}
use Rattle.pf_depot.specs.Lent.{loans_sound}
use Rattle.pf_hub.specs.Tenants.{Tenant}
use Rattle.pf_worker.specs.Workers.{OneWorker}
use Rattle.pf_worker.proofs.worker.Worker.readiness.Goals as goal

pub returns : goal.returns
returns g c =
    subst (λ (t : Tenant). c.readiness.result ≡ readiness t.state c.args.pid c.args.fd) (ap (λ (w : OneWorker g.row.A.Denot). w.tenant) c.self.view_is)
    (c.readiness.ensures (loans_live c.self.inside.loans) (loans_sound c.self.inside.loans) c.self.invariant.owns)
