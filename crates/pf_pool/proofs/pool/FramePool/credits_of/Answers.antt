-- Answers that soon fail where a wrong body breaks them.
use Rattle.std.proofs.lemmas.Grind.{common_steps}
use Rattle.std.proofs.Common.{arith}
use Rattle.pf_pool.proofs.pool.FramePool.credits_of.Goals as goal

pub returns : goal.returns
returns c = grind (arith, common_steps)
