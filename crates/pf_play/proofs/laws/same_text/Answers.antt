-- Both texts are those of the lone machines' replies to the script's steps.
use Rattle.pf_play.proofs.TextLaws as lemmas
use Rattle.pf_play.proofs.laws.same_text.Goals as goal

pub returns : goal.returns
returns c = lemmas.same_text
