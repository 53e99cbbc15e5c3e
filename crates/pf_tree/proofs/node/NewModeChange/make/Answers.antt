use Rattle.std.proofs.Common.{[], ap, ◌∙◌}
use Rattle.pf_machine.specs.FileMap.{set_mode}
use Rattle.pf_tree.proofs.Changes.{mode_here}
use Rattle.pf_tree.proofs.node.NewModeChange.make.Goals as goal

pub returns : goal.returns
returns g c =
    let node = c.node.inside in
    mode_here c.args.self.now.mode node.mode node.uid node.gid node.number node.body
    ∙ ap (set_mode [] c.args.self.now.mode) c.node.view_is
