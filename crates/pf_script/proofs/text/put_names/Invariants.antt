use Rattle.std.proofs.Common.{◌≡◌, [], ◌++◌, List, ℕ, length}
use Rattle.pf_script.specs.Text.{names_text}
use Rattle.pf_script.specs.Puts.{Puts}
use Rattle.pf_script.proofs.text.put_names.Given as goal

abbrev pub invariant-loop-k : goal.invariant-loop-k
invariant-loop-k g l =
    (done : List ℕ)
    × Puts (g.W.Sink.output l.fn.writer) l.fn.out (g.W.Sink.output l.writer) l.out done
    × (done ++ names_text [] l.rest ≡ names_text [] l.bytes)

abbrev pub decreases-loop-k : goal.decreases-loop-k
decreases-loop-k g l = length l.rest
