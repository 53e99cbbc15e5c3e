-- None is written, so each number is without a value and without a mark.
use Rattle.std.proofs.Common.{ap, arith}
use Rattle.pf_machine.specs.State.{vacant}
use Rattle.pf_fds.specs.Taken.{padded}
use Rattle.pf_fds.proofs.Takes.{none_written}
use Rattle.pf_fds.proofs.places.Places.new.Goals as goal

pub invariant_of-result : goal.invariant_of-result
invariant_of-result g c = none_written _ _ _ c.in_ok-values.ensures.items (omega (arith, c.in_ok-values.ensures.capacity)) c.new.ensures

pub returns : goal.returns
unfolding vacant
returns g c = ap padded c.in_ok-values.ensures.items
