use Rattle.pf_script.proofs.DigitLaws.{chosen_are}
use Rattle.pf_script.proofs.digits.digits_of.Goals as goal

pub returns : goal.returns
returns c = chosen_are 16 c.args.values c.fits-values.0 c.requires
