use Rattle.std.proofs.Common.{◌≡◌, ◌≤◌, ◌<◌, ℕ, length, vec_capacity}
use Rattle.pf_frame.specs.Counted.{occurs}
use Rattle.pf_frame.proofs.table.FrameTable.new.Given as goal

-- the numbers below `no` lie on the stack, each once
abbrev pub invariant-loop-no : goal.invariant-loop-no
invariant-loop-no l = record {
  number : length l.vacant.items ≡ l.no;
  room : length l.frames.items ≤ vec_capacity l.vacant;
  once : (q : ℕ) → occurs q l.vacant.items ≤ 1;
  within : (q : ℕ) → 0 < occurs q l.vacant.items → q < l.no;
}
