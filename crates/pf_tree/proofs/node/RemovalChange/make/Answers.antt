use Rattle.std.proofs.Common.{sym, ap, ◌∙◌, subst, [], ◌∷◌, length, arith}
use Rattle.std.specs.Prelude.{IsSome}
use Rattle.pf_machine.specs.FileMap.{find, names_below, remove, IsDirectory}
use Rattle.pf_tree.specs.Node.{all_below}
use Rattle.pf_tree.specs.Subtrees.{under}
use Rattle.pf_tree.proofs.Changes.{remove_local}
use Rattle.pf_tree.proofs.Entries.{IsSound}
use Rattle.pf_tree.proofs.Levels.{found, gap, under_is, gone, root}
use Rattle.pf_tree.proofs.NodeList.{names_under, nothing_left}
use Rattle.pf_tree.proofs.Paths.{nonempty}
use Rattle.pf_tree.proofs.SubtreeLaws.{find_under}
use Rattle.pf_tree.proofs.node.RemovalChange.make.Goals as goal

pub unreachable-requires-in_default-locate : goal.unreachable-requires-in_default-locate
unreachable-requires-in_default-locate g c =
    let n = c.args.self.now.name.now in
    let level = gap c.node.inside n c.in_default-locate.field-0 c.node.view_is c.node.invariant c.in-Directory.is
    c.as_slice.ensures.value c.locate.ensures c.in_default-locate.is in
    let there = nonempty [] (under n c.args.node.now) (subst IsSome (find_under n [] c.args.node.now) c.requires.0) in
    omega (arith, there, ap length (under_is level))

pub invariant_of-node : goal.invariant_of-node
invariant_of-node g c =
    let it = found c.node.inside c.args.self.now.name.now c.in-Ok.at c.node.view_is c.node.invariant c.in-Directory.is
    c.as_slice.ensures.value c.locate.ensures c.in-Ok.is c.remove-entry.ensures.value in
    subst IsSound (sym c.remove-entry.ensures.items) it.level.sound

pub returns : goal.returns
returns g c =
    let n = c.args.self.now.name.now in
    let s = c.args.node.now in
    let it = found c.node.inside n c.in-Ok.at c.node.view_is c.node.invariant c.in-Directory.is
    c.as_slice.ensures.value c.locate.ensures c.in-Ok.is c.remove-entry.ensures.value in
    let here = under_is it.level in
    let file = find_under n [] s ∙ ap (find []) here in
    let names = names_under n [] s ∙ ap (names_below []) here in
    let left = nothing_left c.gone.inside (c.gone.view_is ∙ ap (λ x. x.node) c.deref.ensures) c.gone.invariant
    (λ directory. sym names ∙ c.requires.1 (subst IsDirectory (sym file) directory)) in
    ap (λ l. ([], root c.node.inside) ∷ all_below l) c.remove-entry.ensures.items
    ∙ gone it.level remove remove_local [] left
