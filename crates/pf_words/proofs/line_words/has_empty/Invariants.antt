use Rattle.std.proofs.Common.{◌≡◌, drop, map}
use Rattle.std.specs.List.{list_any}
use Rattle.pf_words.specs.Marks.{is_no_word}
use Rattle.pf_words.proofs.line_words.has_empty.Given as goal

abbrev pub invariant-loop-word : goal.invariant-loop-word
invariant-loop-word l = list_any is_no_word (map (λ w. w.now) (drop l.word-index l.words))
    ≡ list_any is_no_word (map (λ w. w.now) l.words)
