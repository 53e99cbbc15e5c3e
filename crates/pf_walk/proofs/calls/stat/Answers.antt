-- Searches that end soon where there is no proof.
use Rattle.std.proofs.Common.{rules}
use Rattle.pf_walk.proofs.calls.stat.Goals as goal

pub returns-clause-told : goal.returns-clause-told
returns-clause-told g c = search rules steps 200000
