-- Answers that soon fail where a wrong body breaks them.
use Rattle.std.proofs.Common.{rules}
use Rattle.pf_depot.proofs.depot.sum_of.Goals as goal

pub returns : goal.returns
returns c = search rules steps 100000
