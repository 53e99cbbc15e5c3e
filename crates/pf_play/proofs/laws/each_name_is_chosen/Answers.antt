-- A name begins with a letter, and so is no option.
use Rattle.pf_play.proofs.CommandLineLaws as lemmas
use Rattle.pf_play.proofs.laws.each_name_is_chosen.Goals as goal

pub returns : goal.returns
returns c = lemmas.chooses_each_name
