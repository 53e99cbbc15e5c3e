-- Answers that soon fail where a wrong body breaks them.
use Rattle.std.proofs.Common.{rules}
use Rattle.pf_tree.proofs.node.Entry.new.Goals as goal

pub returns-clause-name : goal.returns-clause-name
returns-clause-name g c = search rules steps 500000
