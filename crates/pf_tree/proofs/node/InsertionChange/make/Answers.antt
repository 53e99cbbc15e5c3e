use Rattle.std.proofs.Common.{sym, ap, ◌∙◌, subst, [], ◌∷◌}
use Rattle.pf_machine.specs.FileMap.{insert}
use Rattle.pf_tree.specs.Node.{HasRoot, all_below}
use Rattle.pf_tree.specs.Subtrees.{under}
use Rattle.pf_tree.proofs.Changes.{insert_local}
use Rattle.pf_tree.proofs.Entries.{IsSound}
use Rattle.pf_tree.proofs.Levels.{taken, gap, changed, sound_with, root}
use Rattle.pf_tree.proofs.Paths.{not_both, root_found}
use Rattle.pf_tree.proofs.SubtreeLaws.{find_under}
use Rattle.pf_tree.proofs.node.InsertionChange.make.Goals as goal

pub unreachable-requires-in_default-locate : goal.unreachable-requires-in_default-locate
unreachable-requires-in_default-locate g c =
    let n = c.args.self.now.name.now in
    let there = taken c.node.inside n c.in_default-locate.field-0 c.node.view_is c.node.invariant c.in-Directory.is
    c.as_slice.ensures.value c.locate.ensures c.in_default-locate.is in
    not_both (sym (find_under n [] c.args.node.now) ∙ c.requires.0) (root_found (under n c.args.node.now) there)

pub invariant_of-node-2 : goal.invariant_of-node-2
invariant_of-node-2 g c =
    let level = gap c.node.inside c.args.self.now.name.now c.in-Err.at c.node.view_is c.node.invariant c.in-Directory.is
    c.as_slice.ensures.value c.locate.ensures c.in-Err.is in
    let entry = c.in_ok-entry.ensures in
    subst IsSound (sym c.in_ok-insert.ensures.items)
    (sound_with level c.in_ok-entry.entry entry.name (subst HasRoot (sym entry.file) tt))

pub returns : goal.returns
returns g c =
    let f = c.args.self.now.file in
    let level = gap c.node.inside c.args.self.now.name.now c.in-Err.at c.node.view_is c.node.invariant c.in-Directory.is
    c.as_slice.ensures.value c.locate.ensures c.in-Err.is in
    let entry = c.in_ok-entry.ensures in
    ap (λ l. ([], root c.node.inside) ∷ all_below l) c.in_ok-insert.ensures.items
    ∙ changed level (λ p s. insert p f s) (insert_local f) [] c.in_ok-entry.entry entry.name entry.file
