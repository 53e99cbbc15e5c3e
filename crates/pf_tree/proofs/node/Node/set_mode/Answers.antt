use Rattle.std.proofs.Common.{[], subst}
use Rattle.std.specs.Prelude.{IsSome}
use Rattle.pf_tree.specs.Subtrees.{path_of, subtree}
use Rattle.pf_tree.proofs.Changes.{mode_local}
use Rattle.pf_tree.proofs.Paths.{nonempty}
use Rattle.pf_tree.proofs.SubtreeLaws.{find_subtree}
use Rattle.pf_tree.proofs.node.Node.set_mode.Goals as goal

pub change-requires-clause-local : goal.change-requires-clause-local
change-requires-clause-local g c = λ answer. mode_local c.args.mode

pub change-requires-clause-there : goal.change-requires-clause-there
change-requires-clause-there g c =
    let p = path_of c.args.path.now in
    nonempty [] (subtree p c.args.self.now) (subst IsSome (find_subtree p c.args.self.now) c.requires.present)
