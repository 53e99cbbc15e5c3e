use Rattle.std.proofs.Common.{◌≡◌, ℕ, ◌<◌, false, nat_eq, slice_index}
use Rattle.pf_walk.proofs.slashes.before_slash.Given as goal

abbrev pub invariant-loop-k : goal.invariant-loop-k
invariant-loop-k l = (j : ℕ) → j < l.k → nat_eq (slice_index l.text j) 47 ≡ false
