use Rattle.std.proofs.Common.{◌≡◌, ◌%◌, length, Some}
use Rattle.pf_words.proofs.BlockLaws.{pairs, both}
use Rattle.pf_words.proofs.words.many_hex_of.Given as goal

abbrev pub invariant-loop-rest : goal.invariant-loop-rest
invariant-loop-rest l = record {
  even : length l.rest % 2 ≡ 0;
  read : both (Some l.bytes.items) (pairs l.rest) ≡ pairs l.word;
}

abbrev pub decreases-loop-rest : goal.decreases-loop-rest
decreases-loop-rest l = length l.rest
