use Rattle.std.proofs.Common.{drop}
use Rattle.std.specs.List.{FoldsTo}
use Rattle.pf_tree.specs.Node.{all_below}
use Rattle.pf_tree.specs.Visits.{Visits, visits}
use Rattle.pf_tree.proofs.node.Node.+for_each_depth_first.Given as goal

abbrev pub decreases-for_each_depth_first : goal.decreases-for_each_depth_first
decreases-for_each_depth_first g l = goal.size-for_each_depth_first g l

abbrev pub invariant-loop-entry : goal.invariant-loop-entry
invariant-loop-entry g l =
    goal.F-IsAlwaysCallable g l.f
    × ((last : _) → FoldsTo (Visits (goal.F-step g)) l.f (visits l.depth l.name (all_below (drop l.entry-index l.entry-items))) last → FoldsTo (Visits (goal.F-step g)) l.fn.f (visits l.depth l.name l.self) last)
