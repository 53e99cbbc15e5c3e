use Rattle.std.proofs.Common.{sym, ap, ◌∙◌, []}
use Rattle.pf_machine.specs.FileMap.{find}
use Rattle.pf_tree.specs.Subtrees.{path_of}
use Rattle.pf_tree.proofs.SubtreeLaws.{find_subtree}
use Rattle.pf_tree.proofs.node.Node.find.Goals as goal

pub returns : goal.returns
returns g c = sym (find_subtree (path_of c.args.path.now) c.args.self.now ∙ ap (find []) (sym c.in_ok-node.ensures.found) ∙ c.file.ensures)
