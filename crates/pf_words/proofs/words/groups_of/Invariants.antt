use Rattle.std.proofs.Common.{◌≡◌, length}
use Rattle.pf_words.specs.Words.{numbers_onto, numbers_of, pieces_of}
use Rattle.pf_words.proofs.words.groups_of.Given as goal

abbrev pub invariant-loop-k : goal.invariant-loop-k
invariant-loop-k l = numbers_onto l.numbers.items (pieces_of 44 l.rest) ≡ numbers_of l.word

abbrev pub decreases-loop-k : goal.decreases-loop-k
decreases-loop-k l = length l.rest
