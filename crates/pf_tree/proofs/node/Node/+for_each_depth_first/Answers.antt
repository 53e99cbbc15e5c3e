use Rattle.std.proofs.Common.{rules, of_calls, ◌≡◌, ◌+◌, suc, refl, sym, ap, ◌∙◌, subst, [], ◌++◌, drop, arith}
use Rattle.std.specs.List.{FoldsTo}
use Rattle.pf_tree.specs.Visits.{Visits, visits}
use Rattle.pf_tree.specs.Node.{files_of_body, all_below, below}
use Rattle.pf_tree.proofs.Levels.{seen}
use Rattle.pf_tree.proofs.NodeWalk.{folds_append, visits_below, below_from, first_file}
use Rattle.pf_tree.proofs.node.Node.+for_each_depth_first.Goals as goal

pub returns-in_default-clause-visits : goal.returns-in_default-clause-visits
returns-in_default-clause-visits g t c =
    let whole = first_file _ c.file-file.result [] c.args.self.now (sym (ap (files_of_body c.self.inside.mode c.self.inside.uid c.self.inside.gid c.self.inside.number) c.in_default.is) ∙ c.self.view_is) c.file-file.ensures in
    subst (λ s. FoldsTo (Visits (goal.F-step g)) c.args.f.now (visits c.args.depth c.args.name.now s) c.f.new.self) (sym whole) (c.f.new.self, (_, _, refl, refl, c.f.ensures), refl)

pub loop-entry-init : goal.loop-entry-init
loop-entry-init g t c = (
  search (rules, of_calls),
  λ last rest.
      let whole = first_file _ c.file-file.result (all_below c.in-Directory.entries.items) c.args.self.now (seen c.self.inside c.self.view_is c.in-Directory.is) c.file-file.ensures in
      subst (λ s. FoldsTo (Visits (goal.F-step g)) c.args.f.now (visits c.args.depth c.args.name.now s) last) (sym whole) (c.f.new.self, (_, _, refl, refl, c.f.ensures), subst (λ l. FoldsTo (Visits (goal.F-step g)) c.f.new.self (visits c.args.depth c.args.name.now (all_below l)) last) c.deref-entry-items.ensures.value rest),
)

pub loop-entry-preserved : goal.loop-entry-preserved
loop-entry-preserved g t c = (
  c.for_each_depth_first.ensures.callable,
  λ last rest. c.loop-entry.invariant.1 last (
      let es = c.deref-entry-items.result.now in
      let i = c.loop-entry.entry-index in
      let e = c.entry-item.result in
      let next : i + 1 ≡ suc i = omega arith in
      let cut : visits c.args.depth c.args.name.now (all_below (drop i es)) ≡ visits (c.args.depth + 1) e.value.name.items e.value.node ++ visits c.args.depth c.args.name.now (all_below (drop (i + 1) es)) =
      ap (visits c.args.depth c.args.name.now) (below_from es i e c.loop-entry-test.true c.entry-item.is ∙ ap (λ k. below e.value.name.items e.value.node ++ all_below (drop k es)) (sym next))
      ∙ visits_below c.args.depth c.args.name.now e.value.name.items e.value.node (all_below (drop (i + 1) es)) in
      let here : FoldsTo (Visits (goal.F-step g)) c.loop-entry.f (visits (c.args.depth + 1) e.value.name.items e.value.node) c.for_each_depth_first.new.f =
      subst (λ x. FoldsTo (Visits (goal.F-step g)) c.loop-entry.f (visits (c.args.depth + 1) x.name.items x.node) c.for_each_depth_first.new.f) c.deref-entry.ensures
      (subst (λ n. FoldsTo (Visits (goal.F-step g)) c.loop-entry.f (visits (c.args.depth + 1) n c.deref-entry.result.now.node) c.for_each_depth_first.new.f) c.as_slice.ensures.value c.for_each_depth_first.ensures.visits) in
      subst (λ l. FoldsTo (Visits (goal.F-step g)) c.loop-entry.f l last) (sym cut) (folds_append (Visits (goal.F-step g)) _ _ _ _ _ here rest)),
)
