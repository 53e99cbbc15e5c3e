use Rattle.std.proofs.Common.{[], sym, ap, ◌∙◌, subst}
use Rattle.std.specs.Prelude.{IsSome}
use Rattle.pf_machine.specs.FileMap.{find}
use Rattle.pf_tree.proofs.Levels.{found, gap, under_is}
use Rattle.pf_tree.proofs.Paths.{root_found}
use Rattle.pf_tree.proofs.node.Node.child.Goals as goal

pub returns-in-Ok-clause-found : goal.returns-in-Ok-clause-found
returns-in-Ok-clause-found g c =
    let it = found c.self.inside c.args.name.now c.in-Ok.at c.self.view_is c.self.invariant c.in-Directory.is
    c.as_slice.ensures.value c.locate.ensures c.in-Ok.is c.index-entry.ensures in
    ap (λ x. x.node) c.deref.ensures ∙ sym (under_is it.level)

pub returns-in-Ok-clause-file : goal.returns-in-Ok-clause-file
returns-in-Ok-clause-file g c =
    let it = found c.self.inside c.args.name.now c.in-Ok.at c.self.view_is c.self.invariant c.in-Directory.is
    c.as_slice.ensures.value c.locate.ensures c.in-Ok.is c.index-entry.ensures in
    subst (λ v. IsSome (find [] v)) (sym (ap (λ x. x.node) c.deref.ensures))
    (root_found c.index-entry.result.now.value.node it.root)

pub returns-in-Err-clause-absent : goal.returns-in-Err-clause-absent
returns-in-Err-clause-absent g c =
    under_is (gap c.self.inside c.args.name.now c.in-Err.field-0 c.self.view_is c.self.invariant c.in-Directory.is
    c.as_slice.ensures.value c.locate.ensures c.in-Err.is)
