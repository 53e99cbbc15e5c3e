use Rattle.std.proofs.Common.{◌≡◌, ◌++◌, List, ℕ, length}
use Rattle.hex.specs.Hex.{encode_lower}
use Rattle.pf_script.specs.Puts.{Puts}
use Rattle.pf_script.proofs.text.put_digits.Given as goal

abbrev pub invariant-loop-rest : goal.invariant-loop-rest
invariant-loop-rest g l =
    (done : List ℕ)
    × Puts (g.W.Sink.output l.fn.writer) l.fn.out (g.W.Sink.output l.writer) l.out done
    × (done ++ encode_lower l.rest ≡ encode_lower l.bytes)

abbrev pub decreases-loop-rest : goal.decreases-loop-rest
decreases-loop-rest g l = length l.rest
