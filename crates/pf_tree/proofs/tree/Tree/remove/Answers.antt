use Rattle.std.proofs.Common.{◌≡◌, ◌+◌, ◌<◌, sym, ap, subst, arith, [], length}
use Rattle.pf_machine.specs.FileMap.{find, names_below, IsDirectory, IsFileMap, remove}
use Rattle.pf_machine.proofs.FileLaws.{remove-map, length-remove}
use Rattle.pf_tree.specs.Subtrees.{path_of}
use Rattle.pf_tree.proofs.Paths.{long}
use Rattle.std.specs.Prelude.{IsSome}
use Rattle.pf_tree.proofs.tree.Tree.remove.Goals as goal

pub invariant_of-self : goal.invariant_of-self
invariant_of-self g c =
    let p = path_of c.args.path.now in
    let fs = c.self.inside.root in
    let deeper : p ≡ [] → ⊥ = λ e. omega (arith, ap length e, long c.args.path.now, c.requires.below) in
    let shorter : length (remove p fs) + 1 ≡ length fs = length-remove p fs c.self.invariant.0.rising (subst (λ s. IsSome (find p s)) (sym c.self.view_is) c.requires.present) in
    let same : length c.remove.new.self ≡ length (remove p fs) = ap length c.remove.ensures in
    let counted : c.self.inside.count ≡ length fs = c.self.invariant.1 in
    let fits : c.self.inside.count < 18446744073709551616 = c.self.invariant.2 in
    (subst IsFileMap (sym c.remove.ensures) (remove-map p fs deeper (subst (λ s. IsDirectory (find p s) → names_below p s ≡ []) (sym c.self.view_is) c.requires.empty) c.self.invariant.0), omega arith, omega arith)

pub returns-clause-map : goal.returns-clause-map
returns-clause-map g c =
    let p = path_of c.args.path.now in
    let deeper : p ≡ [] → ⊥ = λ e. omega (arith, ap length e, long c.args.path.now, c.requires.below) in
    subst IsFileMap (sym c.remove.ensures) (remove-map p c.self.inside.root deeper (subst (λ s. IsDirectory (find p s) → names_below p s ≡ []) (sym c.self.view_is) c.requires.empty) c.self.invariant.0)
