-- The worker made as many steps as places were passed, of which the last was answered, and there is room for the other
-- answers.
use Rattle.std.proofs.Common.{◌≡◌, ◌+◌, ℕ, List, length, map}
use Rattle.std.specs.Vec.{vec_capacity}
use Rattle.pf_base.specs.declared.admission.EventAnswer.TheVariants as told
use Rattle.pf_base.specs.declared.step.Answer.{Answer}
use Rattle.pf_play.specs.Workers.{ArePassed}
use Rattle.pf_play.proofs.WorkLaws.{Works}
use Rattle.pf_play.proofs.threads.make_steps.Given as goal

abbrev pub invariant-loop-at : goal.invariant-loop-at
invariant-loop-at g l = record {
  passed : ArePassed (g.T.Turns.passed l.fn.turns) l.fn.worker.number l.at-index;
  answered : (before : ℕ) → l.at-index ≡ before + 1 → g.T.Turns.answered l.fn.turns l.fn.worker.number before;
  own : List Answer;
  told : l.answers.items ≡ map told.Answer own;
  works : Works (g.T.Turns.framed l.fn.turns) l.fn.script l.fn.worker.number l.at-index own l.worker;
  many : length l.answers.items ≡ l.at-index;
  room : vec_capacity l.answers ≡ length l.places;
}
