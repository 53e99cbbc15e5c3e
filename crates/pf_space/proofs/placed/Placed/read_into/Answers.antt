-- Searches that end soon where there is no proof.
use Rattle.std.proofs.Common.{rules}
use Rattle.pf_space.proofs.placed.Placed.read_into.Goals as goal

pub returns-clause-answers : goal.returns-clause-answers
returns-clause-answers g c = search rules steps 200000
