use Rattle.std.proofs.Common.{refl}
use Rattle.pf_walk.proofs.SlashLaws.{name_test}
use Rattle.pf_walk.proofs.words.has_name.Goals as goal

pub returns : goal.returns
returns c = name_test c.slashes.result c.args.path.now c.slashes.ensures _ refl
