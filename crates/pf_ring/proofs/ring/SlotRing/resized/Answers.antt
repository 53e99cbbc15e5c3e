-- Answers that soon fail where a wrong body breaks them.
use Rattle.std.proofs.Common.{rules}
use Rattle.pf_ring.proofs.ring.SlotRing.resized.Goals as goal

pub returns-clause-ring : goal.returns-clause-ring
returns-clause-ring c = search rules steps 200000
