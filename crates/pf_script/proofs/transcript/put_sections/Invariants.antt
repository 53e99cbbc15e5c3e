use Rattle.std.proofs.Common.{◌≡◌, ◌++◌, List, ℕ, drop}
use Rattle.pf_script.specs.Text.{sections}
use Rattle.pf_script.specs.Puts.{Puts}
use Rattle.pf_script.specs.Answers.{answers_in}
use Rattle.pf_script.proofs.transcript.put_sections.Given as goal

abbrev pub invariant-loop-ns : goal.invariant-loop-ns
invariant-loop-ns g l =
    (done : List ℕ)
    × Puts (g.W.Sink.output l.fn.writer) l.fn.out (g.W.Sink.output l.writer) l.out done
    × (done ++ sections l.ns (drop l.ns l.script.spaces) l.script.steps (answers_in l.answers) ≡ sections 0 l.script.spaces l.script.steps (answers_in l.answers))
