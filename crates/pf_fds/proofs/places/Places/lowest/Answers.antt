use Rattle.std.proofs.Common.{sym}
use Rattle.pf_fds.proofs.Takes.{taken_lowest}
use Rattle.pf_fds.proofs.places.Places.lowest.Goals as goal

pub returns-clause-lowest : goal.returns-clause-lowest
returns-clause-lowest g c = rw (← c.self.view_is) (sym (taken_lowest _ _ _ c.self.invariant.taken c.lowest.ensures.within c.lowest.ensures.unmarked c.lowest.ensures.below))
