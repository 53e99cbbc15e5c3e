use Rattle.std.proofs.Common.{◌≡◌, sym, ap, ◌∙◌, subst, arith, length}
use Rattle.pf_machine.specs.FileMap.{IsFileMap}
use Rattle.pf_machine.proofs.FileLaws.{set_mode-map, length-set_mode}
use Rattle.pf_tree.specs.Subtrees.{path_of}
use Rattle.pf_tree.proofs.tree.Tree.set_mode.Goals as goal

pub invariant_of-self : goal.invariant_of-self
invariant_of-self g c =
    let p = path_of c.args.path.now in
    let same : length c.set_mode.new.self ≡ length c.self.inside.root = ap length c.set_mode.ensures ∙ length-set_mode p c.args.mode c.self.inside.root in
    let counted : c.self.inside.count ≡ length c.self.inside.root = c.self.invariant.1 in
    (subst IsFileMap (sym c.set_mode.ensures) (set_mode-map p c.args.mode c.self.inside.root c.self.invariant.0), omega arith, c.self.invariant.2)

pub returns-clause-map : goal.returns-clause-map
returns-clause-map g c = subst IsFileMap (sym c.set_mode.ensures) (set_mode-map (path_of c.args.path.now) c.args.mode c.self.inside.root c.self.invariant.0)
