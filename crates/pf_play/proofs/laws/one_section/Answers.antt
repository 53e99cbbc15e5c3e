-- The answers to a namespace's steps are the same in both runs.
use Rattle.pf_play.proofs.TextLaws as lemmas
use Rattle.pf_play.proofs.laws.one_section.Goals as goal

pub returns : goal.returns
returns c = lemmas.one_section
