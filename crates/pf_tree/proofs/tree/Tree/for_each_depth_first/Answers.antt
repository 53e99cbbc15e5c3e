use Rattle.std.proofs.Common.{◌≡◌, ◌<◌, subst, arith, [], length}
use Rattle.std.specs.List.{FoldsTo}
use Rattle.pf_tree.specs.Visits.{Visits, visits}
use Rattle.pf_tree.proofs.tree.Tree.for_each_depth_first.Goals as goal

pub for_each_depth_first-requires-clause-shallow : goal.for_each_depth_first-requires-clause-shallow
for_each_depth_first-requires-clause-shallow g c =
    let counted : c.self.inside.count ≡ length c.self.inside.root = c.self.invariant.1 in
    let fits : c.self.inside.count < 18446744073709551616 = c.self.invariant.2 in
    omega arith

pub returns : goal.returns
returns g c = subst (λ s. FoldsTo (Visits (goal.F-step g)) c.args.f.now (visits 0 [] s) c.for_each_depth_first.new.f) c.self.view_is c.for_each_depth_first.ensures.visits
