use Rattle.std.proofs.Common.{◌≡◌, ◌++◌, ◌≤◌, length, map}
use Rattle.std.specs.List.{list_any}
use Rattle.pf_words.specs.Words.{words_of}
use Rattle.pf_words.specs.Marks.{marks, is_no_word}
use Rattle.pf_words.proofs.line_words.cut_short_line.Given as goal

abbrev pub invariant-loop-spaces : goal.invariant-loop-spaces
invariant-loop-spaces l = record {
  short : length l.rest ≤ 32;
  marked : l.spaces ≡ marks 32 l.rest;
  cut : map (λ w. w.now) l.words.items ++ words_of l.rest ≡ words_of l.line;
  full : list_any is_no_word (words_of l.rest) ≡ list_any is_no_word (words_of l.line);
}

abbrev pub decreases-loop-spaces : goal.decreases-loop-spaces
decreases-loop-spaces l = length l.rest
