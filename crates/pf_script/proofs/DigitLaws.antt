-- The hexadecimal digits of bytes in blocks.

use Rattle.std.proofs.Common.{◌≡◌, ℕ, zero, suc, ◌+◌, ◌-◌, ◌*◌, ◌/◌, ◌%◌, ◌^◌, ◌<◌, ◌≤◌, true, cond, ltb, eqb, List}
use Rattle.std.proofs.Common.{[], ◌∷◌, ◌++◌, length, take, drop, get_or, map, replicate, slice_index, bit_and, refl}
use Rattle.std.proofs.Common.{ap, ◌∙◌, arith, append_assoc}
use Rattle.std.proofs.lemmas.Bool.{eqb-true, agree_below_at}
use Rattle.std.proofs.lemmas.List.{get_or_append_left, get_or-append_right, take-append-le, take_all, length-map}
use Rattle.std.proofs.Math.ListN.{drop_of_length-le}
use Rattle.std.specs.Simd.Lanes.{zip2, sel_l, top, pick_l, chunk, Each1}
use Rattle.hex.specs.Hex.{encode_with, encode_lower, lower_digits}
use Rattle.hex.proofs.HexLemmas.{length-encode_with}
use Rattle.std.proofs.Common.{Fits, w8}
use Rattle.std.proofs.lemmas.Simd.{zip2_splat}
use Rattle.pf_words.proofs.CutLaws.{next_of}

-- the digit of a number below 16
abbrev pub digit : ℕ → ℕ
digit x = slice_index lower_digits x

-- the digits of a front, and those behind it
pub encode_more : (xs ys : List ℕ) → encode_lower (xs ++ ys) ≡ encode_lower xs ++ encode_lower ys
unfolding encode_with
encode_more [] ys = refl
encode_more (x ∷ xs) ys = rw (encode_more xs ys) refl

-- elements of two lists by turns
abbrev pub by_turns : List ℕ → List ℕ → List ℕ
by_turns [] lows = []
by_turns (high ∷ highs) [] = []
by_turns (high ∷ highs) (low ∷ lows) = high ∷ low ∷ by_turns highs lows

pub encoded_by_turns : (bytes : List ℕ) →
    by_turns (map (λ x. digit (x / 16)) bytes) (map (λ x. digit (x % 16)) bytes) ≡ encode_lower bytes
unfolding encode_with
encoded_by_turns [] = refl
encoded_by_turns (b ∷ bytes) = rw (encoded_by_turns bytes) refl

-- the places of these in both lists, of which the first has 16
abbrev pub turns : ℕ → ℕ → List ℕ
turns k zero = []
turns k (suc n) = k ∷ (16 + k) ∷ turns (k + 1) n

pub picked_by_turns : (k n : ℕ) (highs lows : List ℕ) → length highs ≡ 16 → length lows ≡ 16 → k + n ≡ 16 →
    pick_l 0 (highs ++ lows) (turns k n) ≡ by_turns (drop k highs) (drop k lows)
picked_by_turns k zero highs lows long_highs long_lows all =
    let none : length highs ≤ k = omega (arith, long_highs, all) in
    rw (drop_of_length-le highs none) refl
picked_by_turns k (suc n) highs lows long_highs long_lows all =
    let high = get_or_append_left highs lows 0 k (omega (arith, long_highs, all)) in
    let back : 16 + k - 16 ≡ k = omega arith in
    let low = get_or-append_right highs lows 16 (16 + k) 0 long_highs (omega arith) ∙ ap (λ j. get_or lows j 0) back in
    let rest = picked_by_turns (k + 1) n highs lows long_highs long_lows (omega (arith, all)) in
    rw (
      next_of highs k 0 (omega (arith, long_highs, all)),
      next_of lows k 0 (omega (arith, long_lows, all)),
      high,
      low,
      rest,
    ) refl

-- zeros fill a block up
pub filled_up : (bytes copied digits : List ℕ) → length bytes < 16 → copied ≡ bytes →
    digits ≡ encode_lower (copied ++ drop (length bytes) (replicate 16 0)) → take (2 * length bytes) digits
    ≡ encode_lower bytes
filled_up bytes copied digits few is made =
    let long = length-encode_with lower_digits bytes in
    let zeros : List ℕ = drop (length bytes) (replicate 16 0) in
    rw (made, is, encode_more bytes zeros)
    (take-append-le (2 * length bytes) (encode_lower bytes) (encode_lower zeros) (omega (arith, long))
    ∙ take_all (2 * length bytes) (encode_lower bytes) (omega (arith, long)))

-- Sixteen digits at once, lane by lane

abbrev pub plus : ℕ → ℕ → ℕ
plus a b = (a + b) % 2 ^ 8

abbrev pub below : ℕ → ℕ → ℕ
below a b = cond (ltb a b) 255 0

abbrev pub chosen : ℕ → List ℕ → List ℕ
chosen n v = sel_l (map (top 7) (zip2 below v (replicate n 10))) (zip2 plus v (replicate n 48))
    (zip2 plus v (replicate n 87))

abbrev one_chosen : ℕ → ℕ
one_chosen x = cond (top 7 (below x 10)) (plus x 48) (plus x 87)

one_is : (x : ℕ) → x < 16 → one_chosen x ≡ digit x
one_is x low = eqb-true _ _ (agree_below_at (λ x. eqb (one_chosen x) (digit x)) (λ _. true) 16 x refl low)

pub chosen_are : (n : ℕ) (v : List ℕ) → length v ≡ n → Each1 (λ x. x < 16) v → chosen n v ≡ map (λ x. digit x) v
chosen_are n [] long low = refl
chosen_are zero (x ∷ v) long low = absurd (omega arith)
chosen_are (suc n) (x ∷ v) long low = rw (one_is x low.0, chosen_are n v (omega (arith, long)) low.1) refl

abbrev pub down : ℕ → ℕ → ℕ
down a b = a / 2 ^ b

low_half : (x : ℕ) → x < 256 → bit_and x 15 ≡ x % 16
low_half x byte = eqb-true _ _ (agree_below_at (λ x. eqb (bit_and x 15) (x % 16)) (λ _. true) 256 x refl byte)

high_digits : (xs : List ℕ) → map (λ x. digit x) (map (λ x. down x 4) xs) ≡ map (λ x. digit (x / 16)) xs
high_digits [] = refl
high_digits (x ∷ xs) = rw (high_digits xs) refl

low_digits : (xs : List ℕ) → Each1 (Fits w8) xs →
    map (λ x. digit x) (map (λ x. bit_and x 15) xs) ≡ map (λ x. digit (x % 16)) xs
low_digits [] fits = refl
low_digits (x ∷ xs) fits = rw (low_half x fits.0.fits, low_digits xs fits.1) refl

-- the digits of a block
pub block_is : (bytes highs lows : List ℕ) → length bytes ≡ 16 → Each1 (Fits w8) bytes →
    highs ≡ map (λ x. digit x) (zip2 down (chunk 0 16 bytes) (replicate 16 4)) →
    lows ≡ map (λ x. digit x) (zip2 bit_and (chunk 0 16 bytes) (replicate 16 15)) →
    pick_l 0 (highs ++ lows) (turns 0 16) ≡ encode_lower bytes
block_is bytes highs lows long fits is_highs is_lows =
    let whole : chunk 0 16 bytes ≡ bytes = take_all 16 bytes (omega (arith, long)) in
    let first : highs ≡ map (λ x. digit (x / 16)) bytes =
    is_highs ∙ ap (λ xs. map (λ x. digit x) (zip2 down xs (replicate 16 4))) whole
    ∙ ap (map (λ x. digit x)) (zip2_splat down bytes 16 4 long) ∙ high_digits bytes in
    let second : lows ≡ map (λ x. digit (x % 16)) bytes =
    is_lows ∙ ap (λ xs. map (λ x. digit x) (zip2 bit_and xs (replicate 16 15))) whole
    ∙ ap (map (λ x. digit x)) (zip2_splat bit_and bytes 16 15 long) ∙ low_digits bytes fits in
    let long_first = ap length first ∙ length-map bytes (λ x. digit (x / 16)) ∙ long in
    let long_second = ap length second ∙ length-map bytes (λ x. digit (x % 16)) ∙ long in
    picked_by_turns 0 16 highs lows long_first long_second refl
    ∙ rw (first, second) (encoded_by_turns bytes)

-- a block's digits were made
pub made_on : (done front behind digits more all : List ℕ) → more ≡ done ++ digits → digits ≡ encode_lower front →
    done ++ encode_lower (front ++ behind) ≡ all → more ++ encode_lower behind ≡ all
made_on done front behind digits more all is made same =
    rw (is, made, append_assoc done (encode_lower front) (encode_lower behind)) (rw (encode_more front behind) at same)
