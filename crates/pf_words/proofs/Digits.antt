-- Digits read from the front.

use Rattle.std.proofs.Common.{◌≡◌, ℕ, ◌+◌, ◌*◌, ◌<◌, ◌≤◌, List, [], ◌∷◌, length, drop, get_or, Option, Some, None, refl, arith, rules, ◌∙◌, sym}
use Rattle.std.specs.Option.{option_and_then}
use Rattle.std.specs.Prelude.{leb, true}
use Rattle.std.proofs.lemmas.Bool.{le-leb}
use Rattle.std.proofs.Math.ListN.{drop_of_length-le}
use Rattle.std.proofs.Math.Nat.{le-mul_of_pos_right}
use Rattle.pf_words.specs.Words.{digit, digits_from, up_to}
use Rattle.pf_words.proofs.CutLaws.{next_of}

-- what is too large stays so
pub too_large : (base most n : ℕ) (cs : List ℕ) → 1 ≤ base → most < n → option_and_then (up_to most) (digits_from base n cs) ≡ None
unfolding digits_from
too_large base most n [] low over = search rules
too_large base most n (c ∷ cs) low over =
    elim (digit base c) as (λ r. option_and_then (up_to most) (option_and_then (λ d. digits_from base (n * base + d) cs) r) ≡ None) [
      | None ↦ refl
      | Some d ↦
          let grows : n ≤ n * base = le-mul_of_pos_right n low in
          too_large base most (n * base + d) cs low (omega arith)
    ]

-- a digit more
step : (base n : ℕ) (word : List ℕ) (i d : ℕ) → i < length word → digit base (get_or word i 0) ≡ Some d → digits_from base n (drop i word) ≡ digits_from base (n * base + d) (drop (i + 1) word)
unfolding digits_from
step base n word i d high is = rw (next_of word i 0 high, is) refl

pub goes_on : (base most n : ℕ) (word : List ℕ) (i d : ℕ) (all : Option ℕ) → i < length word → digit base (get_or word i 0) ≡ Some d →
    option_and_then (up_to most) (digits_from base n (drop i word)) ≡ all → option_and_then (up_to most) (digits_from base (n * base + d) (drop (i + 1) word)) ≡ all
goes_on base most n word i d all high is same = rw (← step base n word i d high is) same

-- a byte that is no digit
pub fails : (base most n : ℕ) (word : List ℕ) (i : ℕ) (all : Option ℕ) → i < length word → digit base (get_or word i 0) ≡ None →
    option_and_then (up_to most) (digits_from base n (drop i word)) ≡ all → None ≡ all
unfolding digits_from
fails base most n word i all high is same = rw (next_of word i 0 high, is) at same

-- a number that is too large
pub exceeds : (base most n : ℕ) (word : List ℕ) (i d : ℕ) (all : Option ℕ) → 1 ≤ base → i < length word → digit base (get_or word i 0) ≡ Some d → most < n * base + d →
    option_and_then (up_to most) (digits_from base n (drop i word)) ≡ all → None ≡ all
exceeds base most n word i d all low high is over same =
    sym (too_large base most (n * base + d) (drop (i + 1) word) low over) ∙ goes_on base most n word i d all high is same

-- at the end
pub is_done : (base most n : ℕ) (word : List ℕ) (i : ℕ) (all : Option ℕ) → n ≤ most → length word ≤ i →
    option_and_then (up_to most) (digits_from base n (drop i word)) ≡ all → Some n ≡ all
unfolding digits_from
is_done base most n word i all within past same =
    let none : drop i word ≡ [] = drop_of_length-le word past in
    let fits : leb n most ≡ true = le-leb n most within in
    (rw fits refl) ∙ (rw none at same)
