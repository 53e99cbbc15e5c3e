-- Searches that end soon where there is no proof.
use Rattle.std.proofs.Common.{rules}
use Rattle.pf_walk.proofs.calls.chmod.Goals as goal

pub returns-clause-changed : goal.returns-clause-changed
returns-clause-changed g c = search rules steps 1000000
