-- Answers that soon fail where a wrong body breaks them.
use Rattle.std.proofs.lemmas.Grind.{common_steps}
use Rattle.std.proofs.Common.{arith}
use Rattle.pf_hub.proofs.hub.first_fault.Goals as goal

pub returns-then-frames-gt-MAX_FRAMES : goal.returns-then-frames-gt-MAX_FRAMES
returns-then-frames-gt-MAX_FRAMES g c = grind (arith, common_steps)
