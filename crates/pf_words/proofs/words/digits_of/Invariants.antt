use Rattle.std.proofs.Common.{◌≡◌, ◌≤◌, drop}
use Rattle.std.specs.Option.{option_and_then}
use Rattle.pf_words.specs.Words.{digits, digits_from, up_to}
use Rattle.pf_words.proofs.words.digits_of.Given as goal

abbrev pub invariant-loop-c : goal.invariant-loop-c
invariant-loop-c l =
    (l.value ≤ l.most)
    × (option_and_then (up_to l.most) (digits_from l.base l.value (drop l.c-index l.word)) ≡ digits l.base l.most l.word)
