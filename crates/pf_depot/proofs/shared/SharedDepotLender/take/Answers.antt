-- Answers that soon fail where a wrong body breaks them.
use Rattle.std.proofs.Common.{rules}
use Rattle.pf_depot.proofs.shared.SharedDepotLender.take.Goals as goal

pub returns-clause-out : goal.returns-clause-out
returns-clause-out g c = search rules steps 100000
