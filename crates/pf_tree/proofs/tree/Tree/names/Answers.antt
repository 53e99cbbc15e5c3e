use Rattle.std.proofs.Common.{◌≡◌, sym, ap, ◌∙◌, subst, []}
use Rattle.pf_machine.specs.FileMap.{names_below, listed}
use Rattle.pf_tree.specs.Subtrees.{path_of}
use Rattle.std.specs.Prelude.{IfOk}
use Rattle.pf_tree.proofs.NodeList.{names_subtree}
use Rattle.pf_tree.proofs.tree.Tree.names.Goals as goal

pub returns : goal.returns
returns g c =
    subst (λ ns. IfOk c.names.result (λ names. names.items ≡ listed ns))
    (ap (names_below []) c.in-Some.ensures.found ∙ sym (names_subtree (path_of c.args.path.now) _) ∙ ap (names_below (path_of c.args.path.now)) c.self.view_is)
    c.names.ensures
