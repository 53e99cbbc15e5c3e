-- Searches that end soon where there is no proof.
use Rattle.std.proofs.Common.{rules}
use Rattle.pf_walk.proofs.calls.openable.Goals as goal

pub returns-then-not-may-clause-told : goal.returns-then-not-may-clause-told
returns-then-not-may-clause-told g c = search rules steps 1000000

pub returns-clause-told : goal.returns-clause-told
returns-clause-told g c = search rules steps 1000000
