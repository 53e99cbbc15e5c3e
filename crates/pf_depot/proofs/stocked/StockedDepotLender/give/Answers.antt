-- Answers that soon fail where a wrong body breaks them.
use Rattle.std.proofs.Common.{rules}
use Rattle.pf_depot.proofs.stocked.StockedDepotLender.give.Goals as goal

pub returns-then-has_room-clause-out : goal.returns-then-has_room-clause-out
returns-then-has_room-clause-out g c = search rules steps 100000
