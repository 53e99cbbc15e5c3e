use Rattle.std.proofs.Common.{length}
use Rattle.pf_tree.proofs.node.Node.+change.Given as goal

abbrev pub decreases-change : goal.decreases-change
decreases-change g l = length l.path.now
