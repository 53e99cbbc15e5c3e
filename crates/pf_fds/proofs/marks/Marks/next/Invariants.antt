use Rattle.std.proofs.Common.{◌≡◌, ℕ, ◌-◌, ◌<◌, ◌≤◌, false}
use Rattle.pf_fds.proofs.MarksLaws.{has}
use Rattle.pf_fds.proofs.marks.Marks.next.Given as goal

abbrev pub invariant-loop-first : goal.invariant-loop-first
invariant-loop-first l = record { on : l.from ≤ l.first; none : (k : ℕ) → l.from ≤ k → k < l.first → has l.self.words k ≡ false }

abbrev pub decreases-loop-first : goal.decreases-loop-first
decreases-loop-first l = 256 - l.first
