use Rattle.std.proofs.Common.{length}
use Rattle.pf_walk.proofs.Plain.{Walks}
use Rattle.pf_walk.proofs.resolution.find_plain.Given as goal

abbrev pub invariant-loop-node : goal.invariant-loop-node
invariant-loop-node g l = Walks l.root l.cred l.path l.rest l.node

abbrev pub decreases-loop-node : goal.decreases-loop-node
decreases-loop-node g l = length l.rest
