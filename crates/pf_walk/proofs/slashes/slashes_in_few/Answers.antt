use Rattle.std.proofs.Common.{◌∙◌}
use Rattle.pf_walk.proofs.SlashLaws.{padded}
use Rattle.pf_walk.proofs.slashes.slashes_in_few.Goals as goal

pub returns : goal.returns
returns c = c.slashes_among.ensures ∙ padded c.args.text.now c.copy_from_slice.new.self c.copy_from_slice.ensures.after
