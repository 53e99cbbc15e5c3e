-- Searches that end soon where there is no proof.
use Rattle.std.proofs.Common.{rules}
use Rattle.pf_space.proofs.space.Space.new.Goals as goal

pub returns : goal.returns
returns g c = search rules steps 1000000
