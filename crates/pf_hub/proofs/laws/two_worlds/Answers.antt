-- Both are told what one lone machine is told.
use Rattle.pf_hub.proofs.RunLemmas as lemmas
use Rattle.pf_hub.proofs.laws.two_worlds.Goals as goal

pub returns : goal.returns
returns c = lemmas.two_worlds
