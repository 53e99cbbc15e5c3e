use Rattle.std.proofs.Common.{◌≡◌, ◌++◌, length, map}
use Rattle.pf_words.specs.Words.{pieces_of}
use Rattle.pf_words.proofs.cut.cut_into.Given as goal

abbrev pub invariant-loop-k : goal.invariant-loop-k
invariant-loop-k l = map (λ w. w.now) l.found.items ++ pieces_of l.cut l.rest ≡ pieces_of l.cut l.text

abbrev pub decreases-loop-k : goal.decreases-loop-k
decreases-loop-k l = length l.rest
