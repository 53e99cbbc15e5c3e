-- Answers that soon fail where a wrong body breaks them.
use Rattle.std.proofs.lemmas.Grind.{common_steps}
use Rattle.std.proofs.Common.{arith}
use Rattle.pf_worker.proofs.worker.Worker.admit.Goals as goal

pub admitted-requires-clause-opening : goal.admitted-requires-clause-opening
admitted-requires-clause-opening g c = grind (arith, common_steps)
