use Rattle.std.proofs.Common.{◌≡◌, ◌++◌, ◌+◌, List, ℕ, drop}
use Rattle.pf_script.specs.Text.{lines_text, chosen}
use Rattle.pf_script.specs.Puts.{Puts}
use Rattle.pf_script.specs.Answers.{answers_in}
use Rattle.pf_script.proofs.transcript.put_chosen.Given as goal

abbrev pub invariant-loop-i : goal.invariant-loop-i
invariant-loop-i g l =
    (done : List ℕ)
    × Puts (g.W.Sink.output l.fn.writer) l.fn.out (g.W.Sink.output l.writer) l.out done
    × (done ++ lines_text (l.i + 1) (chosen (answers_in l.answers) (drop l.i l.places)) ≡ lines_text 1 (chosen (answers_in l.answers) l.places))
    × (l.number ≡ l.i)
