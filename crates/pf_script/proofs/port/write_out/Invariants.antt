use Rattle.std.proofs.Common.{◌≡◌, ◌++◌, List, ℕ, length}
use Rattle.std.specs.Io.KnownBytes.{Appends}
use Rattle.pf_script.proofs.port.write_out.Given as goal

abbrev pub invariant-loop-rest : goal.invariant-loop-rest
invariant-loop-rest g l =
    ((front : List ℕ) × Appends (g.W.Sink.output l.fn.writer).contents (g.W.Sink.output l.writer).contents front × (front ++ l.rest ≡ l.bytes))
    × ((g.W.Sink.output l.writer).refusals ≡ (g.W.Sink.output l.fn.writer).refusals)

abbrev pub decreases-loop-rest : goal.decreases-loop-rest
decreases-loop-rest g l = length l.rest
