-- Answers that soon fail where a wrong body breaks them.
use Rattle.std.proofs.lemmas.Grind.{common_steps}
use Rattle.std.proofs.Common.{arith}
use Rattle.pf_frame.proofs.fault.PoolFault.first.Goals as goal

pub returns-then-sum-from : goal.returns-then-sum-from
returns-then-sum-from c = grind (arith, common_steps)

pub returns-then-frames-gt-MAX_FRAMES : goal.returns-then-frames-gt-MAX_FRAMES
returns-then-frames-gt-MAX_FRAMES c = grind (arith, common_steps)
