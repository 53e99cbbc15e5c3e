use Rattle.pf_words.proofs.BlockLaws.{chosen_are}
use Rattle.pf_words.proofs.blocks.values_of.Goals as goal

pub returns : goal.returns
returns c = chosen_are 16 c.args.digits c.fits-digits.0 c.fits-digits.1
