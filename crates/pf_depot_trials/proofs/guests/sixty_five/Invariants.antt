-- There is room for the other guests.
use Rattle.std.proofs.Common.{◌≡◌, length, vec_capacity}
use Rattle.pf_depot_trials.proofs.guests.sixty_five.Given as goal

abbrev pub invariant-loop : goal.invariant-loop
invariant-loop g l = (length l.guests.items ≡ l.counter) × (vec_capacity l.guests ≡ 64)
