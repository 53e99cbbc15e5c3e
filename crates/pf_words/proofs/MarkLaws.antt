-- Marks of a text's parts, and the first of them.

use Rattle.std.proofs.Common.{◌≡◌, ℕ, zero, suc, ◌+◌, ◌-◌, ◌*◌, ◌/◌, ◌%◌, ◌^◌, ◌<◌, ◌≤◌, Bool, true, false, not, cond}
use Rattle.std.proofs.Common.{List, [], ◌∷◌, ◌++◌, length, take, drop, get_or, map, replicate, Some, None, refl, sym}
use Rattle.std.proofs.Common.{ap, ◌∙◌, arith}
use Rattle.std.proofs.Math.Nat.{pow-succ', mul_assoc, div-one, zero-div}
use Rattle.std.proofs.lemmas.Bool.{ne_eqb, not-true, not-false, both_ways}
use Rattle.std.proofs.lemmas.List.{get_or-take, length-take-le, length-drop, length-map, drop-drop, drop-replicate}
use Rattle.std.proofs.lemmas.List.{take_all, take-append-drop}
use Rattle.std.proofs.lemmas.List.Sums.{prefix_len_passes, prefix_len_stops}
use Rattle.std.proofs.lemmas.Nat.{shr-shr, shr_le}
use Rattle.std.proofs.lemmas.Simd.{leading_from_mask_l, mask_l-lt, trailing_mask_l}
use Rattle.std.specs.Int.Count.{count_trailing_zeros}
use Rattle.std.specs.List.{prefix_len}
use Rattle.memchr.specs.Find.{IsFirstByte, is_byte}
use Rattle.std.specs.List.{list_any}
use Rattle.pf_words.specs.Words.{words_of}
use Rattle.pf_words.specs.Marks.{marks, is_no_word}
use Rattle.pf_words.proofs.CutLaws.{front, whole}

pub marks_more : (byte : ℕ) (xs ys : List ℕ) → marks byte (xs ++ ys) ≡ marks byte xs + 2 ^ length xs * marks byte ys
marks_more byte [] ys = omega arith
marks_more byte (x ∷ xs) ys =
    let rest = marks_more byte xs ys in
    let twice : 2 ^ suc (length xs) * marks byte ys ≡ 2 * (2 ^ length xs * marks byte ys) =
    ap (λ p. p * marks byte ys) (pow-succ' 2 (length xs)) ∙ mul_assoc 2 (2 ^ length xs) (marks byte ys) in
    omega (arith, rest, twice)

-- there is no mark among zeros
pub no_marks : (byte n : ℕ) → 0 < byte → marks byte (replicate n 0) ≡ 0
no_marks byte zero some = refl
no_marks byte (suc n) some =
    let no = ne_eqb 0 byte (λ is. omega (arith, is)) in
    rw no (omega (arith, no_marks byte n some))

half : (b : Bool) (m : ℕ) → (cond b 1 0 + 2 * m) / 2 ^ 1 ≡ m
half true m = omega arith
half false m = omega arith

-- marks that are shifted are those of what is left
pub shifted : (byte k : ℕ) (xs : List ℕ) → marks byte xs / 2 ^ k ≡ marks byte (drop k xs)
shifted byte zero xs = div-one (marks byte xs)
shifted byte (suc k) [] = zero-div (2 ^ suc k)
shifted byte (suc k) (x ∷ xs) =
    let step : 1 + k ≡ suc k = omega arith in
    rw (← step) (sym (shr-shr (marks byte (x ∷ xs)) 1 k) ∙ ap (λ n. n / 2 ^ k) (half (is_byte byte x) (marks byte xs))
    ∙ shifted byte k xs)

some_place : (byte : ℕ) (xs : List ℕ) → 0 < marks byte xs → prefix_len (λ x. not (is_byte byte x)) xs < length xs
some_place byte [] some = absurd (omega arith)
some_place byte (x ∷ xs) some =
    elim (is_byte byte x) as (λ b. 0 < cond b 1 0 + 2 * marks byte xs → cond (not b)
    (1 + prefix_len (λ x. not (is_byte byte x)) xs) 0 < suc (length xs)) [
      | true ↦ λ _. omega arith
      | false ↦ λ more. omega (arith, some_place byte xs (omega arith))
    ] some

-- the lowest mark is that of the first place
pub first_mark : (byte k : ℕ) (xs : List ℕ) → length xs ≤ 64 → 0 < marks byte xs →
    k ≡ count_trailing_zeros 64 (marks byte xs) →
    IsFirstByte (is_byte byte) xs (Some k)
first_mark byte k xs few some is =
    let other = λ (x : ℕ). not (is_byte byte x) in
    let at : k ≡ prefix_len (λ x. not (is_byte byte x)) xs = is ∙ trailing_mask_l (is_byte byte) 64 xs few some in
    let within = some_place byte xs some in (
      record {
        low = omega arith;
        high = omega (arith, at, within);
        before = λ j low high here. both_ways (is_byte byte (get_or xs j 0))
            (not-true _ (prefix_len_passes other xs j 0 (omega (arith, at)))) here;
      },
      rw at (not-false _ (prefix_len_stops other xs 0 within)),
    )

-- without a mark there is no place
pub no_mark : (byte : ℕ) (xs : List ℕ) → marks byte xs ≡ 0 → IsFirstByte (is_byte byte) xs None
no_mark byte xs none k low high here =
    let all = leading_from_mask_l (is_byte byte) xs none in
    both_ways (is_byte byte (get_or xs k 0))
    (not-true _ (prefix_len_passes (λ x. not (is_byte byte x)) xs k 0 (omega (arith, all)))) here

-- the first place in a text's front is the first in the text
pub first_in_front : (byte n k : ℕ) (xs : List ℕ) → n ≤ length xs → IsFirstByte (is_byte byte) (take n xs) (Some k) →
    IsFirstByte (is_byte byte) xs (Some k)
first_in_front byte n k xs long first =
    let short = length-take-le n xs long in (
      record {
        low = omega arith;
        high = omega (arith, short, first.0.high);
        before = λ j low high here. first.0.before j low high
            (rw (get_or-take n xs j 0 (omega (arith, short, first.0.high))) here);
      },
      rw (get_or-take n xs k 0 (omega (arith, short, first.0.high))) at first.1,
    )

-- zeros behind a text have no mark
pub marks_of_front : (byte : ℕ) (text copied : List ℕ) → 0 < byte → copied ≡ text →
    marks byte (copied ++ drop (length text) (replicate 16 0)) ≡ marks byte text
marks_of_front byte text copied some is =
    let none = ap (marks byte) (drop-replicate {X = ℕ} (length text) 16 0) ∙ no_marks byte (16 - length text) some in
    rw (is, marks_more byte text (drop (length text) (replicate 16 0)), none) (omega arith)

few : (byte : ℕ) (xs : List ℕ) → length xs ≡ 16 → marks byte xs < 65536
few byte xs long =
    let below = rw (length-map xs (is_byte byte), long) at (mask_l-lt (map (is_byte byte) xs)) in
    omega (arith, below)

-- the marks of the first 16 bytes, and those of the last without what they share
abbrev pub AreJoined : ℕ → ℕ → ℕ → List ℕ → Type 0
AreJoined byte first last text =
    let back = last / 2 ^ (16 - (length text - 16)) in
    (first + (back * 65536) % 2 ^ 64 < 2 ^ 64) × (first + (back * 65536) % 2 ^ 64 ≡ marks byte text)

pub marks_in_two : (byte first last : ℕ) (text : List ℕ) → 16 ≤ length text → length text ≤ 32 →
    first ≡ marks byte (take 16 text) →
    last ≡ marks byte (take 16 (drop (length text - 16) text)) → AreJoined byte first last text
marks_in_two byte first last text low high is_first is_last =
    let start = length text - 16 in
    let more : start + (16 - start) ≡ 16 = omega arith in
    let behind : length (drop start text) ≡ 16 = omega (arith, length-drop start text) in
    let long = length-take-le 16 text low in
    let few_first = few byte (take 16 text) long in
    let all = take_all 16 (drop start text) (omega (arith, behind)) in
    let whole_last : last ≡ marks byte (drop start text) = is_last ∙ ap (marks byte) all in
    let few_last = few byte (drop start text) behind in
    let less = shr_le last (16 - start) in
    let cut : last / 2 ^ (16 - start) ≡ marks byte (drop 16 text) =
    ap (λ n. n / 2 ^ (16 - start)) whole_last ∙ shifted byte (16 - start) (drop start text)
    ∙ ap (marks byte) (drop-drop {A = ℕ} (16 - start) start text ∙ ap (λ n. drop n text) more) in
    let both = marks_more byte (take 16 text) (drop 16 text) in
    let sum : marks byte text ≡ marks byte (take 16 text) + 65536 * marks byte (drop 16 text) = rw
    (take-append-drop 16 text, long) at both in (
      omega (arith, is_first, whole_last, few_first, few_last, less),
      omega (arith, is_first, whole_last, few_first, few_last, less, cut, sum),
    )

-- Words of a line that are none

-- a word with a byte was cut off
pub word_on : (rest : List ℕ) (k : ℕ) → IsFirstByte (is_byte 32) rest (Some k) → 0 < k →
    list_any is_no_word (words_of (drop (k + 1) rest)) ≡ list_any is_no_word (words_of rest)
word_on rest k first some =
    let long = length-take-le k rest (omega (arith, first.0.high)) in
    let no = ne_eqb (length (take k rest)) 0 (λ is. omega (arith, is, long)) in
    rw (front 32 rest k first, no) refl

pub none_first : (rest : List ℕ) (k : ℕ) → IsFirstByte (is_byte 32) rest (Some k) → k ≡ 0 →
    list_any is_no_word (words_of rest) ≡ true
none_first rest k first is = rw (front 32 rest k first, is) refl

pub none_last : (rest : List ℕ) → IsFirstByte (is_byte 32) rest None → length rest ≡ 0 →
    list_any is_no_word (words_of rest) ≡ true
none_last rest first is = rw (whole 32 rest first, is) refl

pub some_last : (rest : List ℕ) → IsFirstByte (is_byte 32) rest None → 0 < length rest →
    list_any is_no_word (words_of rest) ≡ false
some_last rest first some =
    let no = ne_eqb (length rest) 0 (λ is. omega (arith, is)) in
    rw (whole 32 rest first, no) refl
