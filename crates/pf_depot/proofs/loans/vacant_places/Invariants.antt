-- The places so far have no frame, and there is room for the others.
use Rattle.std.proofs.Common.{◌≡◌, replicate, None, vec_capacity}
use Rattle.std.specs.Prelude.{Option}
use Rattle.pf_frame.specs.declared.frame.Frame.{Frame}
use Rattle.pf_depot.proofs.loans.vacant_places.Given as goal

abbrev pub invariant-loop : goal.invariant-loop
invariant-loop l = (l.places.items ≡ replicate {A = Option Frame} l.counter None) × (vec_capacity l.places ≡ l.count)
