-- None of those so far can go on.
use Rattle.std.proofs.Common.{ℕ, ◌-◌, ◌<◌, ◌≤◌, false}
use Rattle.pf_tables.proofs.Common.{GoesOn}
use Rattle.pf_tables.proofs.tables.Tables.next_to_go_on.Given as goal

abbrev pub invariant-loop-i : goal.invariant-loop-i
invariant-loop-i g l = record {
  above : l.i < 256 → l.after ≤ l.i;
  none : (q : ℕ) → l.after < q → q ≤ l.i → GoesOn l.self q false;
}

abbrev pub decreases-loop-i : goal.decreases-loop-i
decreases-loop-i g l = 256 - l.i
