-- Answers that soon fail where a wrong body breaks them.
use Rattle.std.proofs.lemmas.Grind.{common_steps}
use Rattle.std.proofs.Common.{arith}
use Rattle.pf_frame.proofs.table.FrameTable.view.Goals as goal

pub returns : goal.returns
returns c = grind (arith, common_steps)
