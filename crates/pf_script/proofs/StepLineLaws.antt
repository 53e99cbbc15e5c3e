-- Each step has a line that says it.

use Rattle.std.proofs.Common.{◌≡◌, ℕ, ◌<◌, ◌≤◌, List, [], ◌∷◌, ◌++◌, length, Some, Ok, refl, arith, ◌∙◌}
use Rattle.std.specs.Prelude.{Bool, true, false, not, ◌==◌, ◌&&◌, ◌||◌, nat_lt, nat_le, codes, bytes_eq}
use Rattle.std.specs.List.{list_all, list_any, AllByRecursion}
use Rattle.std.proofs.lemmas.Bool.{ne_eqb}
use Rattle.std.proofs.lemmas.Bool.Decides.{nat_tests}
use Rattle.pf_base.specs.declared.step.Step.{Step}
use Rattle.pf_words.specs.Words.{words_of, is_letter, is_name_byte, begins_with_letter, is_kept_word}
use Rattle.pf_words.specs.Words.{is_name}
use Rattle.pf_words.specs.Verbs.{step_words}
use Rattle.pf_words.specs.Spelling.{joined, spell, IsWord, is_inner, EachStepIsRead}
use Rattle.pf_words.proofs.JoinLaws.{Lacks, both, is_not, one_piece, cut_again, joined_passes, passes_too}
use Rattle.pf_script.specs.Script.{Draft, place_of, line_of, words_line, first_word_line, step_line, is_skipped}
use Rattle.pf_script.specs.Script.{is_empty_word}
use Rattle.pf_script.specs.declared.line.Line.TheVariants as lines
use Rattle.pf_script.specs.StepLines.{step_text, EachStepHasALine}

-- a name as a word

name_inner : (c : ℕ) → is_name_byte c ≡ true → is_inner c ≡ true
name_inner c is = grind (arith, nat_tests)

name_parts : (name : List ℕ) → is_name name ≡ true →
    (begins_with_letter name ≡ true) × (list_all is_name_byte name ≡ true) × (is_kept_word name ≡ false)
name_parts name is =
    let free = not (is_kept_word name) in
    let first = both (begins_with_letter name) (nat_le (length name) 32 && (list_all is_name_byte name && free)) is in
    let second = both (nat_le (length name) 32) (list_all is_name_byte name && free) first.1 in
    let third = both (list_all is_name_byte name) free second.1 in
    (first.0, third.0, is_not (is_kept_word name) third.1)

letters_some : (name : List ℕ) → begins_with_letter name ≡ true → 0 < length name
letters_some [] is = absurd (cc)
letters_some (c ∷ cs) is = omega arith

neither : (a b : Bool) → (a || b) ≡ false → (a ≡ false) × (b ≡ false)
neither true b is = absurd (cc)
neither false b is = (refl, is)

-- no first byte of a name is that of a comment
no_comment : (c : ℕ) → is_letter c ≡ true → (c == 35) ≡ false
no_comment c is = grind (arith, nat_tests)

is_taken : (name : List ℕ) (words : List (List ℕ)) → begins_with_letter name ≡ true →
    is_skipped (joined 32 (name ∷ words)) ≡ false
unfolding joined
is_taken [] words is = absurd (cc)
is_taken (c ∷ cs) [] is = no_comment c is
is_taken (c ∷ cs) (word ∷ words) is = no_comment c is

-- Words of a line

no_empty : (words : List (List ℕ)) → AllByRecursion IsWord words → list_any is_empty_word words ≡ false
no_empty [] all = refl
no_empty (word ∷ words) all =
    let some : (length word == 0) ≡ false = ne_eqb (length word) 0 (λ is. omega (arith, all.0.some)) in
    rw (some, no_empty words all.1) refl

inner_lacks_space : (c : ℕ) → is_inner c ≡ true → not (c == 32) ≡ true
inner_lacks_space c is = (both (not (c == 32)) (not (c == 10)) is).0

inner_lacks_feed : (c : ℕ) → is_inner c ≡ true → not (c == 10) ≡ true
inner_lacks_feed c is = (both (not (c == 32)) (not (c == 10)) is).1

lack_spaces : (words : List (List ℕ)) → AllByRecursion IsWord words → AllByRecursion (Lacks 32) words
lack_spaces [] all = tt
lack_spaces (word ∷ words) all =
    (passes_too is_inner (λ c. not (c == 32)) inner_lacks_space word all.0.inner, lack_spaces words all.1)

lack_feeds : (words : List (List ℕ)) → AllByRecursion IsWord words → AllByRecursion (Lacks 10) words
lack_feeds [] all = tt
lack_feeds (word ∷ words) all =
    (passes_too is_inner (λ c. not (c == 10)) inner_lacks_feed word all.0.inner, lack_feeds words all.1)

-- a line of a step by its first word
by_first : (d : Draft) (name : List ℕ) (place : ℕ) (step : Step) (words : List (List ℕ)) → 0 < d.frames →
    is_kept_word name ≡ false → place_of name d.spaces ≡ Some place → step_words words ≡ Ok step →
    words_line d (name ∷ words) ≡ Ok (record d { steps = d.steps ++ (place, lines.Step step) ∷ [] })
unfolding words_line first_word_line step_line
by_first d name place step words pool kept named read =
    let guests = bytes_eq name (codes "admit") || bytes_eq name (codes "retire") in
    let first = neither (bytes_eq name (codes "pool")) (bytes_eq name (codes "space") || guests) kept in
    let second = neither (bytes_eq name (codes "space")) guests first.1 in
    let third = neither (bytes_eq name (codes "admit")) (bytes_eq name (codes "retire")) second.1 in
    let frames : (d.frames == 0) ≡ false = ne_eqb d.frames 0 (λ is. omega arith) in
    rw (first.0, frames, second.0, third.0, third.1, named, read) refl

-- a line whose words are these
by_words : (d : Draft) (text : List ℕ) (words : List (List ℕ)) → length text ≤ 2200000 → is_skipped text ≡ false →
    words_of text ≡ words → list_any is_empty_word words ≡ false → line_of d text ≡ words_line d words
unfolding line_of
by_words d text words short taken cut some =
    let long : nat_lt 2200000 (length text) ≡ false = grind (arith, nat_tests) in
    rw (long, taken, cut, some) refl

pub each_step_has_a_line : EachStepIsRead → EachStepHasALine
each_step_has_a_line reads d name place step pool is named fields short =
    let parts = name_parts name is in
    let law = reads step fields in
    let inner = passes_too is_name_byte is_inner name_inner name parts.1 in
    let own : IsWord name = record { some = letters_some name parts.0; inner = inner } in
    let all : AllByRecursion IsWord (name ∷ spell step) = (own, law.0) in
    let cut : words_of (step_text name step) ≡ name ∷ spell step =
    cut_again 32 name (spell step) (lack_spaces (name ∷ spell step) all) in
    let feeds = joined_passes (λ c. not (c == 10)) 32 (name ∷ spell step) refl (lack_feeds (name ∷ spell step) all) in
    let taken = is_taken name (spell step) parts.0 in
    let read = by_words d (step_text name step) (name ∷ spell step) short taken cut (no_empty (name ∷ spell step) all) in (
      one_piece 10 (step_text name step) feeds,
      read ∙ by_first d name place step (spell step) pool parts.2 named law.1,
    )
