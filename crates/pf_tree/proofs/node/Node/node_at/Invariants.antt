use Rattle.std.proofs.Common.{◌≡◌, drop}
use Rattle.pf_tree.specs.Subtrees.{subtree, path_of}
use Rattle.pf_tree.proofs.node.Node.node_at.Given as goal

abbrev pub invariant-loop-name : goal.invariant-loop-name
invariant-loop-name g l = subtree (path_of (drop l.name-index l.path)) l.node ≡ subtree (path_of l.path) l.self
