-- There is a number of seats for each transcript, and no more of either than places.
use Rattle.std.proofs.Common.{arith}
use Rattle.pf_service.proofs.unlocks.ForGoodUnlocks.unlock.Goals as goal

pub returns-clause-few : goal.returns-clause-few
returns-clause-few g c = omega (arith, c.in_ok-transcripts.ensures.all, c.in_ok-places.ensures.few)
