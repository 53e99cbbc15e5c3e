use Rattle.std.proofs.Common.{◌≡◌, ◌+◌, sym, ap, ◌∙◌, subst, arith, length, None}
use Rattle.pf_machine.specs.FileMap.{find, front, IsDirectory, IsFileMap}
use Rattle.pf_machine.proofs.FileLaws.{insert-map, length-insert}
use Rattle.pf_tree.specs.Subtrees.{path_of}
use Rattle.pf_tree.proofs.tree.Tree.insert.Goals as goal

pub invariant_of-self-2 : goal.invariant_of-self-2
invariant_of-self-2 g c =
    let p = path_of c.args.path.now in
    let fs = c.self.inside.root in
    let absent : find p fs ≡ None = ap (find p) c.self.view_is ∙ c.requires.absent in
    let parent : IsDirectory (find (front p) fs) = subst (λ s. IsDirectory (find (front p) s)) (sym c.self.view_is) c.requires.parent in
    let whole : length fs ≡ length c.args.self.now = ap length c.self.view_is in
    let longer : length c.insert.new.self ≡ length fs + 1 = ap length c.in_ok-insert.ensures ∙ length-insert p c.args.file fs absent in
    let counted : c.self.inside.count ≡ length fs = c.self.invariant.1 in
    (subst IsFileMap (sym c.in_ok-insert.ensures) (insert-map p c.args.file fs absent parent c.self.invariant.0), omega arith, omega (arith, c.requires.room))

pub returns-clause-map : goal.returns-clause-map
returns-clause-map g c =
    let p = path_of c.args.path.now in
    subst IsFileMap (sym c.in_ok-insert.ensures) (insert-map p c.args.file c.self.inside.root (ap (find p) c.self.view_is ∙ c.requires.absent) (subst (λ s. IsDirectory (find (front p) s)) (sym c.self.view_is) c.requires.parent) c.self.invariant.0)
