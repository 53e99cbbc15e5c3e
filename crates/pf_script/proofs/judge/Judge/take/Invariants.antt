use Rattle.std.proofs.Common.{◌≡◌, ◌+◌, ◌≤◌, length, None}
use Rattle.pf_script.specs.Judged.{Judges}
use Rattle.pf_script.proofs.judge.Judge.take.Given as goal

abbrev pub invariant-loop-k : goal.invariant-loop-k
invariant-loop-k l =
    Judges l.fn.self l.text l.self l.rest
    × (l.self.refusal ≡ None)
    × (l.self.number + length l.rest ≤ l.fn.self.number + length l.text)

abbrev pub decreases-loop-k : goal.decreases-loop-k
decreases-loop-k l = length l.rest
