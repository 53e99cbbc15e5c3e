use Rattle.pf_laws.proofs.NumberLaws.{numbers_apart}
use Rattle.pf_laws.proofs.numbers_apart.Goals as goal

pub returns : goal.returns
returns c = numbers_apart c.args.config.now c.args.steps.now
