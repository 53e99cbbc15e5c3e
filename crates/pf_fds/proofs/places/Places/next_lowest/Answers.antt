use Rattle.std.proofs.Common.{Some, sym}
use Rattle.pf_fds.specs.Taken.{padded}
use Rattle.pf_fds.proofs.Takes.{taken_set, taken_lowest}
use Rattle.pf_fds.proofs.places.Places.next_lowest.Goals as goal

pub returns-clause-lowest : goal.returns-clause-lowest
returns-clause-lowest g c x =
    rw (← c.self.view_is)
    (sym (taken_lowest _ _ _ (taken_set _ _ (padded c.self.inside.values.items) c.args.but (Some x) c.self.invariant.taken c.requires c.mark.ensures.marked c.mark.ensures.others) c.lowest.ensures.within c.lowest.ensures.unmarked c.lowest.ensures.below))
