use Rattle.pf_laws.proofs.ApartSteps.{ends_apart}
use Rattle.pf_laws.proofs.ends_apart.Goals as goal

pub returns : goal.returns
returns c = ends_apart c.args.config.now c.args.steps.now
