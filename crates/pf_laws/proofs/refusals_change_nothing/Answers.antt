use Rattle.pf_laws.proofs.RefusalLaws.{refusals_change_nothing}
use Rattle.pf_laws.proofs.refusals_change_nothing.Goals as goal

pub returns : goal.returns
returns c = refusals_change_nothing c.args.config.now c.args.steps.now
