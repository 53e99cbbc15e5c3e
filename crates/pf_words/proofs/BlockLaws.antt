-- Hexadecimal digits in pairs, a block of them after the other.

use Rattle.std.proofs.Common.{◌≡◌, ℕ, zero, suc, ◌+◌, ◌-◌, ◌*◌, ◌/◌, ◌%◌, ◌<◌, ◌≤◌, List, [], ◌∷◌, ◌++◌, length, take}
use Rattle.std.proofs.Common.{drop, replicate, Option, Some, None, Result, Ok, Err, refl, sym, ap, ◌∙◌, arith}
use Rattle.std.proofs.Common.{append_assoc, length-append}
use Rattle.std.specs.Prelude.{option_map}
use Rattle.std.proofs.Common.{Bool, true, false, cond, eqb, ltb, bit_or, map, get_or, subst, ◌≢◌, Fits, w8, ◌^◌}
use Rattle.std.specs.Simd.Lanes.{sel_l, zip2, top, Each1, chunk, pick_l, mask_l}
use Rattle.std.proofs.Math.ListN.{drop_of_length-le}
use Rattle.pf_words.proofs.CutLaws.{next_of}
use Rattle.std.proofs.lemmas.Bool.{ne_eqb, eqb-true, ltb-true, lt-ltb, le-ltb, agree_below_at}
use Rattle.std.proofs.lemmas.Nat.{or_lt, le_or_l, le_or_r}
use Rattle.std.proofs.lemmas.Simd.{length-zip2, mask_l-mod}
use Rattle.pf_words.specs.Blocks.{value_or_none, or_255}
use Rattle.std.proofs.lemmas.List.{length-drop, length-map, take-append-drop, drop-replicate, length-replicate}
use Rattle.std.proofs.lemmas.List.{take-append-le, take_all}
use Rattle.hex.specs.Hex.{hex_digit_value, digit_or_error, ◌>>=◌, decode_pairs, decode_of}
use Rattle.hex.specs.declared.error.FromHexError.{FromHexError}
use Rattle.pf_words.specs.Words.{decoded}

-- the byte of two digits
abbrev pub byte_by : Option ℕ → Option ℕ → Option ℕ
byte_by (Some high) (Some low) = Some (high * 16 + low)
byte_by (Some high) None = None
byte_by None low = None

abbrev pub onto : Option ℕ → Option (List ℕ) → Option (List ℕ)
onto (Some b) (Some bs) = Some (b ∷ bs)
onto (Some b) None = None
onto None bs = None

-- the bytes of digits in pairs
abbrev pub pairs : List ℕ → Option (List ℕ)
pairs [] = Some []
pairs (c ∷ []) = None
pairs (high ∷ low ∷ rest) = onto (byte_by (hex_digit_value high) (hex_digit_value low)) (pairs rest)

one_pair : (high low i : ℕ) (a b : Option ℕ) (r : Result (List ℕ) FromHexError) (p : Option (List ℕ)) → decoded r ≡ p →
    decoded ((digit_or_error high i a >>= (λ h. digit_or_error low (i + 1) b >>= (λ l. Ok (h * 16 + l)))) >>=
    (λ byte. r >>= (λ bytes. Ok (byte ∷ bytes))))
    ≡ onto (byte_by a b) p
one_pair high low i None b r p same = refl
one_pair high low i (Some h) None r p same = refl
one_pair high low i (Some h) (Some l) (Ok bytes) p same = rw (← same) refl
one_pair high low i (Some h) (Some l) (Err e) p same = rw (← same) refl

-- it is what the digits decode to
pub pairs_are : (i : ℕ) (text : List ℕ) → decoded (decode_pairs i text) ≡ pairs text
unfolding decode_pairs
pairs_are i [] = refl
pairs_are i (c ∷ []) = refl
pairs_are i (high ∷ low ∷ rest) =
    one_pair high low i (hex_digit_value high) (hex_digit_value low) (decode_pairs (i + 2) rest) (pairs rest)
    (pairs_are (i + 2) rest)

pub decoded_is : (text : List ℕ) → length text % 2 ≡ 0 → decoded (decode_of text) ≡ pairs text
decoded_is text even =
    let no = ne_eqb (length text % 2) 1 (λ is. omega (arith, is, even)) in
    rw no (pairs_are 0 text)

-- One text behind another

abbrev pub both : Option (List ℕ) → Option (List ℕ) → Option (List ℕ)
both (Some xs) (Some ys) = Some (xs ++ ys)
both (Some xs) None = None
both None ys = None

onto_both : (b : Option ℕ) (p q : Option (List ℕ)) → onto b (both p q) ≡ both (onto b p) q
onto_both None p q = refl
onto_both (Some b) None q = refl
onto_both (Some b) (Some p) None = refl
onto_both (Some b) (Some p) (Some q) = refl

none_before : (q : Option (List ℕ)) → q ≡ both (Some []) q
none_before None = refl
none_before (Some q) = refl

pub pairs_more : (xs ys : List ℕ) → length xs % 2 ≡ 0 → pairs (xs ++ ys) ≡ both (pairs xs) (pairs ys)
pairs_more [] ys even = none_before (pairs ys)
pairs_more (c ∷ []) ys even = absurd (omega (arith, even))
pairs_more (high ∷ low ∷ xs) ys even =
    rw (pairs_more xs ys (omega (arith, even)))
    (onto_both (byte_by (hex_digit_value high) (hex_digit_value low)) (pairs xs) (pairs ys))

both_assoc : (done block : List ℕ) (q : Option (List ℕ)) →
    both (Some done) (both (Some block) q) ≡ both (Some (done ++ block)) q
both_assoc done block None = refl
both_assoc done block (Some q) = ap (λ t. Some t) (sym (append_assoc done block q))

-- a block was read
pub block_on : (done front behind block : List ℕ) (all : Option (List ℕ)) → length front % 2 ≡ 0 →
    Some block ≡ pairs front →
    both (Some done) (pairs (front ++ behind)) ≡ all → both (Some (done ++ block)) (pairs behind) ≡ all
block_on done front behind block all even is same =
    let split = rw (pairs_more front behind even, ← is) at same in
    sym (both_assoc done block (pairs behind)) ∙ split

-- a block has a byte that is no digit
pub block_fails : (done front behind : List ℕ) (all : Option (List ℕ)) → length front % 2 ≡ 0 → None ≡ pairs front →
    both (Some done) (pairs (front ++ behind)) ≡ all → all ≡ None
block_fails done front behind all even is same =
    let split = rw (pairs_more front behind even, ← is) at same in
    sym split

-- Zeros behind a text

zeros : (k : ℕ) → pairs (replicate (k * 2) 48) ≡ Some (replicate k 0)
zeros zero = refl
zeros (suc k) =
    let two : suc k * 2 ≡ suc (suc (k * 2)) = omega arith in
    rw two (rw (zeros k) refl)

longer : (b : Option ℕ) (p : Option (List ℕ)) (bytes rest : List ℕ) →
    ((bs : List ℕ) → p ≡ Some bs → length rest ≡ 2 * length bs) →
    onto b p ≡ Some bytes → length rest + 2 ≡ 2 * length bytes
longer None p bytes rest more is = absurd (cc)
longer (Some b) None bytes rest more is = absurd (cc)
longer (Some b) (Some bs) bytes rest more is =
    let all : b ∷ bs ≡ bytes = cc in
    rw (← all) (omega (arith, more bs refl))

pairs_length : (text bytes : List ℕ) → pairs text ≡ Some bytes → length text ≡ 2 * length bytes
pairs_length [] bytes is =
    let none : [] ≡ bytes = cc in
    rw (← none) refl
pairs_length (c ∷ []) bytes is = absurd (cc)
pairs_length (high ∷ low ∷ rest) bytes is =
    let more = longer (byte_by (hex_digit_value high) (hex_digit_value low)) (pairs rest) bytes rest
    (λ bs was. pairs_length rest bs was) is in
    omega (arith, more)

front_of : (text more : List ℕ) (p : Option (List ℕ)) → pairs text ≡ p →
    option_map (λ bytes. take (length text / 2) bytes) (both p (Some more)) ≡ p
front_of text more None is = refl
front_of text more (Some bytes) is =
    let long = pairs_length text bytes is in
    let half : length text / 2 ≡ length bytes = omega (arith, long) in
    ap (λ t. Some t) (rw half (take-append-le (length bytes) bytes more (omega arith)
    ∙ take_all (length bytes) bytes (omega arith)))

-- the bytes of a text are in front of those of a block that zeros fill up
pub filled_up : (text copied : List ℕ) (r : Option (List ℕ)) → length text % 2 ≡ 0 → length text < 32 → copied ≡ text →
    r ≡ decoded (decode_of (copied ++ drop (length text) (replicate 32 48))) →
    option_map (λ bytes. take (length text / 2) bytes) r ≡ decoded (decode_of text)
filled_up text copied r even short is read =
    let k = (32 - length text) / 2 in
    let twice : 32 - length text ≡ k * 2 = omega (arith, even, short) in
    let rest = drop-replicate {X = ℕ} (length text) 32 48 ∙ ap (λ n. replicate n 48) twice in
    let zeros_at : List ℕ = replicate (k * 2) 48 in
    let long = length-replicate {A = ℕ} (k * 2) 48 in
    let whole = decoded_is (text ++ zeros_at) (omega (arith, length-append text zeros_at, long, even)) in
    rw (read, is, rest, whole, decoded_is text even, pairs_more text zeros_at even, zeros k)
    (front_of text (replicate k 0) (pairs text) refl)

-- the last bytes were read
pub last_on : (done rest last : List ℕ) (n : ℕ) (r all : Option (List ℕ)) → length rest % 2 ≡ 0 → Some last ≡ r →
    option_map (λ bytes. take n bytes) r ≡ decoded (decode_of rest) → both (Some done) (pairs rest) ≡ all → all
    ≡ Some (done ++ take n last)
last_on done rest last n r all even is read same =
    let front : Some (take n last) ≡ pairs rest = ap (option_map (λ bytes. take n bytes)) is ∙ read
    ∙ decoded_is rest even in
    sym (rw (← front) at same)

-- or one of the last digits is none
pub last_fails : (done rest : List ℕ) (n : ℕ) (r all : Option (List ℕ)) → length rest % 2 ≡ 0 → None ≡ r →
    option_map (λ bytes. take n bytes) r ≡ decoded (decode_of rest) → both (Some done) (pairs rest) ≡ all → all ≡ None
last_fails done rest n r all even is read same =
    let none : None ≡ pairs rest = ap (option_map (λ bytes. take n bytes)) is ∙ read ∙ decoded_is rest even in
    sym (rw (← none) at same)

-- Sixteen digits at once, lane by lane

abbrev pub minus : ℕ → ℕ → ℕ
minus a b = (a + (2 ^ 8 - b)) % 2 ^ 8

abbrev pub plus : ℕ → ℕ → ℕ
plus a b = (a + b) % 2 ^ 8

abbrev pub times : ℕ → ℕ → ℕ
times a b = (a * b) % 2 ^ 8

abbrev pub below : ℕ → ℕ → ℕ
below a b = cond (ltb a b) 255 0

-- what the lanes hold that a digit's value is chosen from
abbrev pub chosen : ℕ → List ℕ → List ℕ
chosen n v =
    sel_l (map (top 7) (zip2 below (zip2 minus v (replicate n 48)) (replicate n 10))) (zip2 minus v (replicate n 48))
    (sel_l (map (top 7) (zip2 below (zip2 minus (zip2 bit_or v (replicate n 32)) (replicate n 97)) (replicate n 6)))
    (zip2 plus (zip2 minus (zip2 bit_or v (replicate n 32)) (replicate n 97)) (replicate n 10)) (replicate n 255))

abbrev one_chosen : ℕ → ℕ
one_chosen c =
    cond (top 7 (below (minus c 48) 10)) (minus c 48)
    (cond (top 7 (below (minus (bit_or c 32) 97) 6)) (plus (minus (bit_or c 32) 97) 10) 255)

one_is : (c : ℕ) → c < 256 → one_chosen c ≡ value_or_none c
one_is c byte = eqb-true _ _ (agree_below_at (λ c. eqb (one_chosen c) (value_or_none c)) (λ _. true) 256 c refl byte)

pub chosen_are : (n : ℕ) (v : List ℕ) → length v ≡ n → Each1 (Fits w8) v → chosen n v ≡ map value_or_none v
chosen_are n [] long fits = refl
chosen_are zero (c ∷ v) long fits = absurd (omega arith)
chosen_are (suc n) (c ∷ v) long fits = rw (one_is c fits.0.fits, chosen_are n v (omega (arith, long)) fits.1) refl

-- every second element, the first of them at the front or behind it
abbrev pub evens : List ℕ → List ℕ
evens [] = []
evens (c ∷ []) = c ∷ []
evens (high ∷ low ∷ rest) = high ∷ evens rest

abbrev pub odds : List ℕ → List ℕ
odds [] = []
odds (c ∷ []) = []
odds (high ∷ low ∷ rest) = low ∷ odds rest

-- so many places from k on, two apart
abbrev pub apart : ℕ → ℕ → List ℕ
apart k zero = []
apart k (suc n) = k ∷ apart (k + 2) n

two_next : (xs : List ℕ) (k : ℕ) → k + 1 < length xs → drop k xs ≡ get_or xs k 0 ∷ get_or xs (k + 1) 0 ∷ drop (k + 2) xs
two_next xs k within =
    let step : k + 1 + 1 ≡ k + 2 = omega arith in
    next_of xs k 0 (omega arith) ∙ ap (λ t. get_or xs k 0 ∷ t)
    (next_of xs (k + 1) 0 within ∙ ap (λ n. get_or xs (k + 1) 0 ∷ drop n xs) step)

picked_evens : (k n : ℕ) (xs : List ℕ) → length xs ≡ k + 2 * n → pick_l 0 xs (apart k n) ≡ evens (drop k xs)
picked_evens k zero xs long =
    let none : length xs ≤ k = omega (arith, long) in
    rw (drop_of_length-le xs none) refl
picked_evens k (suc n) xs long = rw
    (two_next xs k (omega (arith, long)), picked_evens (k + 2) n xs (omega (arith, long))) refl

picked_odds : (k n : ℕ) (xs : List ℕ) → length xs ≡ k + 2 * n → pick_l 0 xs (apart (k + 1) n) ≡ odds (drop k xs)
picked_odds k zero xs long =
    let none : length xs ≤ k = omega (arith, long) in
    rw (drop_of_length-le xs none) refl
picked_odds k (suc n) xs long =
    let step : k + 1 + 2 ≡ k + 2 + 1 = omega arith in
    rw (two_next xs k (omega (arith, long)), step, picked_odds (k + 2) n xs (omega (arith, long))) refl

halves : (text : List ℕ) → length text ≡ 32 → chunk 0 16 text ++ chunk 16 16 text ≡ text
halves text long =
    let back = take_all 16 (drop 16 text) (omega (arith, length-drop 16 text, long)) in
    rw back (take-append-drop 16 text)

pub evens_of : (text : List ℕ) → length text ≡ 32 →
    pick_l 0 (chunk 0 16 text ++ chunk 16 16 text) (apart 0 16) ≡ evens text
evens_of text long = rw (halves text long) (picked_evens 0 16 text long)

pub odds_of : (text : List ℕ) → length text ≡ 32 →
    pick_l 0 (chunk 0 16 text ++ chunk 16 16 text) (apart 1 16) ≡ odds text
odds_of text long = rw (halves text long) (picked_odds 0 16 text long)

-- the lanes where one of two values is no digit's
abbrev pub faults : ℕ → List ℕ → List ℕ → ℕ
faults n highs lows = mask_l (map (top 7) (zip2 below (replicate n 15) (zip2 bit_or highs lows)))

abbrev pub joined : ℕ → List ℕ → List ℕ → List ℕ
joined n highs lows = zip2 plus (zip2 times highs (replicate n 16)) lows

abbrev is_small : Option ℕ → Bool
is_small None = true
is_small (Some v) = ltb v 16

small_value : (c : ℕ) → c < 256 → is_small (hex_digit_value c) ≡ true
small_value c byte = agree_below_at (λ c. is_small (hex_digit_value c)) (λ _. true) 256 c refl byte

abbrev PairIs : Option ℕ → Option ℕ → Bool → Type 0
PairIs a b true = byte_by a b ≡ None
PairIs a b false = byte_by a b ≡ Some (plus (times (or_255 a) 16) (or_255 b))

over_true : (x : ℕ) → 15 < x → top 7 (below 15 x) ≡ true
over_true x high = rw (lt-ltb 15 x high) refl

over_false : (x : ℕ) → x < 16 → top 7 (below 15 x) ≡ false
over_false x low = rw (le-ltb 15 x (omega arith)) refl

pair_is : (a b : Option ℕ) → is_small a ≡ true → is_small b ≡ true →
    PairIs a b (top 7 (below 15 (bit_or (or_255 a) (or_255 b))))
pair_is None b low_a low_b = subst (PairIs None b)
    (sym (over_true (bit_or 255 (or_255 b)) (omega (arith, le_or_l 255 (or_255 b))))) refl
pair_is (Some a) None low_a low_b = subst (PairIs (Some a) None)
    (sym (over_true (bit_or a 255) (omega (arith, le_or_r a 255)))) refl
pair_is (Some a) (Some b) low_a low_b =
    let small_a = ltb-true a 16 low_a in
    let small_b = ltb-true b 16 low_b in
    let same : a * 16 + b ≡ plus (times a 16) b = omega (arith, small_a, small_b) in
    subst (PairIs (Some a) (Some b)) (sym (over_false (bit_or a b) (or_lt 4 a b small_a small_b)))
    (ap (λ n. Some n) same)

abbrev pub values : List ℕ → List ℕ
values xs = map value_or_none xs

pair_at : (high low : ℕ) → high < 256 → low < 256 →
    PairIs (hex_digit_value high) (hex_digit_value low)
    (top 7 (below 15 (bit_or (value_or_none high) (value_or_none low))))
pair_at high low byte_high byte_low = pair_is (hex_digit_value high) (hex_digit_value low)
    (small_value high byte_high) (small_value low byte_low)

all_digits : (n : ℕ) (t : List ℕ) → length t ≡ 2 * n → Each1 (Fits w8) t →
    faults n (values (evens t)) (values (odds t)) ≡ 0 →
    Some (joined n (values (evens t)) (values (odds t))) ≡ pairs t
all_digits n [] long fits none = refl
all_digits n (c ∷ []) long fits none = absurd (omega (arith, long))
all_digits zero (high ∷ low ∷ t) long fits none = absurd (omega (arith, long))
all_digits (suc n) (high ∷ low ∷ t) long fits none =
    let byte = plus (times (value_or_none high) 16) (value_or_none low) in
    let m = faults n (values (evens t)) (values (odds t)) in
    let rest = all_digits n t (omega (arith, long)) fits.1.1 in
    elim (top 7 (below 15 (bit_or (value_or_none high) (value_or_none low)))) as
    (λ b. PairIs (hex_digit_value high) (hex_digit_value low) b → cond b 1 0 + 2 * m ≡ 0 →
    Some (byte ∷ joined n (values (evens t)) (values (odds t)))
    ≡ onto (byte_by (hex_digit_value high) (hex_digit_value low)) (pairs t)) [
      | true ↦ λ pair zero_now. absurd (omega arith)
      | false ↦ λ pair zero_now. rw (pair, ← rest (omega arith)) refl
    ] (pair_at high low fits.0.fits fits.1.0.fits) none

no_digit : (n : ℕ) (t : List ℕ) → length t ≡ 2 * n → Each1 (Fits w8) t →
    0 < faults n (values (evens t)) (values (odds t)) → None ≡ pairs t
no_digit zero [] long fits some = absurd (omega arith)
no_digit (suc n) [] long fits some = absurd (omega (arith, long))
no_digit n (c ∷ []) long fits some = refl
no_digit zero (high ∷ low ∷ t) long fits some = absurd (omega (arith, long))
no_digit (suc n) (high ∷ low ∷ t) long fits some =
    let m = faults n (values (evens t)) (values (odds t)) in
    let rest = no_digit n t (omega (arith, long)) fits.1.1 in
    elim (top 7 (below 15 (bit_or (value_or_none high) (value_or_none low)))) as
    (λ b. PairIs (hex_digit_value high) (hex_digit_value low) b → 0 < cond b 1 0 + 2 * m →
    None ≡ onto (byte_by (hex_digit_value high) (hex_digit_value low)) (pairs t)) [
      | true ↦ λ pair some_now. rw pair refl
      | false ↦ λ pair some_now. rw (pair, ← rest (omega arith)) refl
    ] (pair_at high low fits.0.fits fits.1.0.fits) some

length-evens : (n : ℕ) (t : List ℕ) → length t ≡ 2 * n → length (evens t) ≡ n
length-evens n [] long = omega (arith, long)
length-evens n (c ∷ []) long = absurd (omega (arith, long))
length-evens zero (high ∷ low ∷ t) long = absurd (omega (arith, long))
length-evens (suc n) (high ∷ low ∷ t) long = omega (arith, length-evens n t (omega (arith, long)))

length-odds : (n : ℕ) (t : List ℕ) → length t ≡ 2 * n → length (odds t) ≡ n
length-odds n [] long = omega (arith, long)
length-odds n (c ∷ []) long = absurd (omega (arith, long))
length-odds zero (high ∷ low ∷ t) long = absurd (omega (arith, long))
length-odds (suc n) (high ∷ low ∷ t) long = omega (arith, length-odds n t (omega (arith, long)))

-- the mask has sixteen bits
whole_mask : (highs lows : List ℕ) → length highs ≡ 16 → length lows ≡ 16 →
    faults 16 highs lows % 2 ^ 64 ≡ faults 16 highs lows
whole_mask highs lows long_highs long_lows =
    let first = length-zip2 bit_or highs lows (long_highs ∙ sym long_lows) in
    let second = length-zip2 below (replicate 16 15) (zip2 bit_or highs lows) (sym (first ∙ long_highs)) in
    let bits = length-map (zip2 below (replicate 16 15) (zip2 bit_or highs lows)) (top 7) in
    mask_l-mod (map (top 7) (zip2 below (replicate 16 15) (zip2 bit_or highs lows))) 64
    (omega (arith, first, second, bits, long_highs))

module _ (text highs lows : List ℕ) (long : length text ≡ 32) (fits : Each1 (Fits w8) text)
    (is_highs : highs ≡ values (pick_l 0 (chunk 0 16 text ++ chunk 16 16 text) (apart 0 16)))
    (is_lows : lows ≡ values (pick_l 0 (chunk 0 16 text ++ chunk 16 16 text) (apart 1 16))) where
  even_highs : highs ≡ values (evens text)
  even_highs = is_highs ∙ ap values (evens_of text long)

  odd_lows : lows ≡ values (odds text)
  odd_lows = is_lows ∙ ap values (odds_of text long)

  mask : faults 16 highs lows % 2 ^ 64 ≡ faults 16 (values (evens text)) (values (odds text))
  mask =
      let long_evens = length-map (evens text) value_or_none ∙ length-evens 16 text long in
      let long_odds = length-map (odds text) value_or_none ∙ length-odds 16 text long in
      rw (even_highs, odd_lows) (whole_mask (values (evens text)) (values (odds text)) long_evens long_odds)

  decodes : decoded (decode_of text) ≡ pairs text
  decodes = decoded_is text (omega (arith, long))

  pub block_reads : faults 16 highs lows % 2 ^ 64 ≡ 0 → Some (joined 16 highs lows) ≡ decoded (decode_of text)
  block_reads none =
      rw (even_highs, odd_lows, decodes) (all_digits 16 text long fits (sym mask ∙ none))

  pub block_refuses : faults 16 highs lows % 2 ^ 64 ≢ 0 → None ≡ decoded (decode_of text)
  block_refuses some =
      rw decodes (no_digit 16 text long fits (omega (arith, mask, some)))
