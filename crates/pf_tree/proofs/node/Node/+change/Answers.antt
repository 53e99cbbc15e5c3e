use Rattle.std.proofs.Common.{◌<◌, sym, ap, ◌∙◌, subst, arith, [], ◌∷◌, length}
use Rattle.pf_tree.specs.Node.{all_below, HasRoot}
use Rattle.pf_tree.specs.Subtrees.{path_of, subtree}
use Rattle.pf_tree.proofs.Entries.{IsSound}
use Rattle.pf_tree.proofs.Levels.{found, gap, under_is, changed, sound_with, rooted, fifo_under, root}
use Rattle.pf_tree.proofs.Paths.{nowhere}
use Rattle.pf_tree.proofs.node.Node.+change.Goals as goal

pub unreachable-requires : goal.unreachable-requires
unreachable-requires g t c =
    let none = fifo_under c.self.inside c.in-Some.name.now.now c.self.view_is c.in_default-body.is in
    nowhere c.args.self.now c.in-Some.ensures.cases.0 none c.requires.there

pub unreachable-requires-in_default-locate : goal.unreachable-requires-in_default-locate
unreachable-requires-in_default-locate g t c =
    let i = c.in_default-locate.field-0 in
    let level = gap c.self.inside c.in-Some.name.now.now i c.self.view_is c.self.invariant c.in-Directory.is
    c.as_slice.ensures.value c.locate.ensures c.in_default-locate.is in
    nowhere c.args.self.now c.in-Some.ensures.cases.0 (under_is level) c.requires.there

pub change-answer-requires : goal.change-answer-requires
change-answer-requires g t c κs within =
    let n = c.in-Some.name.now.now in
    let p = path_of c.in-Some.rest.now in
    let it = found c.self.inside n c.in-Ok.at c.self.view_is c.self.invariant c.in-Directory.is
    c.as_slice.ensures.value c.locate.ensures c.in-Ok.is c.index_mut-entry.ensures.value in
    let here = under_is it.level ∙ sym (ap (λ x. x.node) c.deref_mut.ensures.value) in
    let below = ap (λ l. subtree (path_of l) c.args.self.now) c.in-Some.ensures.cases.0 ∙ ap (subtree p) here in
    let there = subst (λ s. 0 < length s) below c.requires.there in
    let fit = subst (g.C.Change.IsFit c.args.change.now) below c.requires.fit in (
      omega (arith, c.decreases, c.in-Some.ensures.cases.1),
      (within.0, (within.1.0, (within.1.1, (c.requires.local, (there, fit))))),
    )

pub invariant_of-self : goal.invariant_of-self
invariant_of-self g t c =
    let it = found c.self.inside c.in-Some.name.now.now c.in-Ok.at c.self.view_is c.self.invariant c.in-Directory.is
    c.as_slice.ensures.value c.locate.ensures c.in-Ok.is c.index_mut-entry.ensures.value in
    let name = ap (λ x. x.name.items) c.deref_mut.ensures.value ∙ it.name in
    let after = subst HasRoot c.node.view_is (rooted _ _ _ _ c.node.inside.body) in
    subst IsSound (sym (it.set _)) (sound_with it.level _ name after)

pub returns : goal.returns
returns g t c =
    let it = found c.self.inside c.in-Some.name.now.now c.in-Ok.at c.self.view_is c.self.invariant c.in-Directory.is
    c.as_slice.ensures.value c.locate.ensures c.in-Ok.is c.index_mut-entry.ensures.value in
    let name = ap (λ x. x.name.items) c.deref_mut.ensures.value ∙ it.name in
    let p = path_of c.in-Some.rest.now in
    let made = g.C.Change.made c.args.change.now c.change-answer.result in
    let node = c.change-answer.ensures ∙ ap (λ x. made p x.node) c.deref_mut.ensures.value in
    ap (λ l. ([], root c.self.inside) ∷ all_below l) (it.set _)
    ∙ changed it.level made (c.requires.local c.change-answer.result) p _ name node
    ∙ ap (λ l. made (path_of l) c.args.self.now) (sym c.in-Some.ensures.cases.0)
