-- Answers that soon fail where a wrong body breaks them.
use Rattle.std.proofs.lemmas.Grind.{common_steps}
use Rattle.std.proofs.Common.{arith}
use Rattle.pf_worker.proofs.gated.GatedDepotLender.take.Goals as goal

pub returns-clause-fact : goal.returns-clause-fact
returns-clause-fact g c = grind (arith, common_steps)
