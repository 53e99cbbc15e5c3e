use Rattle.std.proofs.lemmas.Grind.{common_steps}
use Rattle.std.proofs.Common.{arith}
use Rattle.pf_tree.proofs.Paths.{lost}
use Rattle.pf_tree.proofs.node.Node.node_at.Goals as goal

pub returns-in_default-clause-absent : goal.returns-in_default-clause-absent
returns-in_default-clause-absent g c = lost c.args.self.now c.loop-name.node.now c.args.path.now c.loop-name.name-index _ c.loop-name-test.true c.loop-name.invariant c.in_default.ensures.absent

pub loop-name-preserved : goal.loop-name-preserved
loop-name-preserved g c = grind (arith, common_steps)
