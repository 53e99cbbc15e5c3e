use Rattle.std.proofs.Common.{arith}
use Rattle.pf_fds.specs.Taken.{padded}
use Rattle.pf_fds.proofs.Takes.{taken_counted, sum_of-few}
use Rattle.pf_fds.proofs.places.Places.count.Goals as goal

pub returns-clause-number : goal.returns-clause-number
returns-clause-number g c = rw (← c.self.view_is) (taken_counted _ _ _ c.self.invariant.taken c.count.ensures)

pub returns-clause-most : goal.returns-clause-most
returns-clause-most g c =
    omega (arith, taken_counted _ _ _ c.self.invariant.taken c.count.ensures, sum_of-few (padded c.self.inside.values.items), c.self.invariant.taken.places)
