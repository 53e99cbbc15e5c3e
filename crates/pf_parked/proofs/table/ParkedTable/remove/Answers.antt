-- Answers that soon fail where a wrong body breaks them.
use Rattle.std.proofs.lemmas.Grind.{common_steps}
use Rattle.std.proofs.Common.{arith}
use Rattle.pf_parked.proofs.table.ParkedTable.remove.Goals as goal

pub returns-clause-call : goal.returns-clause-call
returns-clause-call g c = grind (arith, common_steps)
