use Rattle.std.proofs.Common.{◌-◌, length, ap, ◌∙◌}
use Rattle.pf_tree.specs.Subtrees.{path_of}
use Rattle.pf_walk.proofs.Cuts.{front-take}
use Rattle.pf_walk.proofs.resolution.but_last.Goals as goal

pub returns : goal.returns
returns c = ap path_of c.truncate.ensures.items ∙ front-take c.args.names.items c.saturating_sub-parents.result (c.saturating_sub-parents.ensures ∙ ap (λ l. length l - 1) c.as_slice.ensures.value)
