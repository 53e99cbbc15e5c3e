use Rattle.std.proofs.Common.{◌≡◌, length, vec_capacity}
use Rattle.pf_depot_trials.proofs.borrowing.old_frames.Given as goal

abbrev pub invariant-loop : goal.invariant-loop
invariant-loop l = (length l.frames.items ≡ l.counter) × (vec_capacity l.frames ≡ l.count)
