use Rattle.std.proofs.Common.{◌≡◌, ◌<◌, sym, subst, arith, length}
use Rattle.pf_machine.specs.FileMap.{IsFileMap}
use Rattle.pf_machine.proofs.FileLaws.{opening-map}
use Rattle.pf_tree.proofs.tree.Tree.new.Goals as goal

pub invariant_of-result : goal.invariant_of-result
invariant_of-result g c = subst (λ fs. IsFileMap fs × (1 ≡ length fs) × (1 < 18446744073709551616)) (sym c.new.ensures) (opening-map c.args.root c.requires.directory, omega arith, omega arith)

pub returns-clause-map : goal.returns-clause-map
returns-clause-map g c = subst IsFileMap (sym c.new.ensures) (opening-map c.args.root c.requires.directory)
