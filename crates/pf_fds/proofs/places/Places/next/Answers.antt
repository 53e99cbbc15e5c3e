use Rattle.std.proofs.Common.{arith}
use Rattle.pf_fds.proofs.Takes.{taken_stands, taken_none}
use Rattle.pf_fds.proofs.places.Places.next.Goals as goal

pub returns-clause-stands : goal.returns-clause-stands
returns-clause-stands g c l = rw (← c.self.view_is) (taken_stands _ _ _ c.self.invariant.taken l (c.next.ensures.marked l))

pub returns-clause-between : goal.returns-clause-between
returns-clause-between g c n above below =
    rw (← c.self.view_is) (taken_none _ _ n c.self.invariant.taken (omega (arith, below, c.next.ensures.within)) (c.next.ensures.between n above below))
