-- Answers that soon fail where a wrong body breaks them.
use Rattle.std.proofs.Common.{rules}
use Rattle.pf_walk.proofs.walk.lets_all_search.Goals as goal

pub returns-then-grants-2 : goal.returns-then-grants-2
returns-then-grants-2 g c = search rules steps 500000
