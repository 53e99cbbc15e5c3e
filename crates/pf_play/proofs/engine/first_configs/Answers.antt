-- The allocators are a front of those at the names' places.
use Rattle.std.proofs.Common.{ap, sym, ◌≡◌, ◌∙◌, length, take}
use Rattle.std.specs.Prelude.{slice_get}
use Rattle.std.proofs.lemmas.Result.{IfOk-weaker}
use Rattle.pf_hub.specs.Opening.{allocators_of}
use Rattle.pf_play.proofs.TreeLaws.{in_front}
use Rattle.pf_play.proofs.engine.first_configs.Goals as goal

pub returns-clause-own : goal.returns-clause-own
returns-clause-own g c =
    let trees = c.args.trees.now in
    let many = length c.as_slice.result.now in
    IfOk-weaker c.with_trees.result (λ configs. allocators_of configs.items ≡ take many trees) _
    (λ configs stand n tree is. in_front many trees n tree (ap (λ zs. slice_get zs n) (sym stand) ∙ is))
    c.with_trees.ensures.trees
