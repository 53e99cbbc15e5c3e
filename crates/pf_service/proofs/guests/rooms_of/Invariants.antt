use Rattle.std.proofs.Common.{◌≡◌, length}
use Rattle.std.specs.Vec.{vec_capacity}
use Rattle.pf_service.proofs.guests.rooms_of.Given as goal

abbrev pub invariant-loop : goal.invariant-loop
invariant-loop g l = (length l.rooms.items ≡ l.counter) × (vec_capacity l.rooms ≡ l.number)
