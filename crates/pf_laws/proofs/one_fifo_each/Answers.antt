use Rattle.pf_laws.proofs.FifoLaws.{one_fifo_each}
use Rattle.pf_laws.proofs.one_fifo_each.Goals as goal

pub returns : goal.returns
returns c = one_fifo_each c.args.config.now c.args.steps.now
