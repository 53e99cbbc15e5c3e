use Rattle.std.proofs.Common.{sym, ap, ◌∙◌, []}
use Rattle.pf_machine.specs.FileMap.{names_below}
use Rattle.pf_machine.specs.Paths.{is_nonempty}
use Rattle.pf_tree.specs.Subtrees.{path_of}
use Rattle.pf_tree.proofs.NodeList.{names_subtree}
use Rattle.pf_tree.proofs.tree.Tree.has_names.Goals as goal

pub returns : goal.returns
returns g c =
    c.has_names.ensures ∙ ap is_nonempty (ap (names_below []) c.in-Some.ensures.found ∙ sym (names_subtree (path_of c.args.path.now) _) ∙ ap (names_below (path_of c.args.path.now)) c.self.view_is)
