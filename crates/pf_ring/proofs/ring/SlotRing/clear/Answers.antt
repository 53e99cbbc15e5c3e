-- Answers that soon fail where a wrong body breaks them.
use Rattle.std.proofs.Common.{rules}
use Rattle.pf_ring.proofs.ring.SlotRing.clear.Goals as goal

pub returns-clause-door : goal.returns-clause-door
returns-clause-door g c = search rules steps 1000000
