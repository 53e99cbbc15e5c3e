-- Answers that soon fail where a wrong body breaks them.
use Rattle.std.proofs.lemmas.Grind.{common_steps}
use Rattle.std.proofs.Common.{arith}
use Rattle.pf_pipe.proofs.pipe.Pipe.cross_now.Goals as goal

pub returns-in-Tee-clause-crosses : goal.returns-in-Tee-clause-crosses
returns-in-Tee-clause-crosses g c = grind (arith, common_steps)
