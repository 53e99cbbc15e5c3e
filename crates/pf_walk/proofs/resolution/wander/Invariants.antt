use Rattle.std.proofs.Common.{◌≡◌, drop, []}
use Rattle.pf_machine.specs.Paths.{reach}
use Rattle.pf_tree.specs.Subtrees.{path_of}
use Rattle.pf_walk.specs.Walks.{Stands}
use Rattle.pf_walk.proofs.resolution.wander.Given as goal

abbrev pub invariant-loop-name : goal.invariant-loop-name
invariant-loop-name g l =
    (l.walk.root.now ≡ l.root)
    × Stands l.walk.root.now l.walk.names.items l.walk.nodes.items
    × (reach l.root l.cred (path_of l.walk.names.items) (path_of (drop l.name-index l.names)) ≡ reach l.root l.cred [] (path_of l.names))
