use Rattle.std.proofs.Common.{◌≡◌, ◌+◌, ◌≤◌, drop}
use Rattle.pf_play.specs.Plays.{nomem_of}
use Rattle.pf_play.proofs.engine.count_nomem.Given as goal

abbrev pub invariant-loop-answer : goal.invariant-loop-answer
invariant-loop-answer l =
    (l.count + nomem_of (drop l.answer-index l.answers) ≡ nomem_of l.answers)
    × (l.count ≤ l.answer-index)
