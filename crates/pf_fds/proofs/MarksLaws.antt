-- Bits of a list of words: what a change of one word changes, where the lowest 0 is and the next 1, and how many are 1.

use Rattle.std.proofs.Common.{◌≡◌, ◌≢◌, ℕ, zero, suc, ◌+◌, ◌-◌, ◌*◌, ◌/◌, ◌%◌, ◌^◌, ◌<◌, ◌≤◌, Bool, true, false, cond, List, [], ◌∷◌, length, get_or, set, take, drop, count_by, ap, subst, ◌∙◌, arith, nat_eq, inl, inr, refl, sym, w64}
use Rattle.std.proofs.lemmas.Bool.{cases_eq, cases_lt, eq-eqb, eqb-true, eqb-false}
use Rattle.std.proofs.lemmas.Grind.{get_or-set_at}
use Rattle.std.proofs.lemmas.List.{get_or-set_other, take-append-drop, length-take-le, length-drop, get_or-take, get_or-drop}
use Rattle.std.proofs.lemmas.List.Sums.{sum_by-append, sum_by-cons}
use Rattle.std.proofs.Math.Nat.{pow-suc}
use Rattle.std.proofs.lemmas.Nat.{shr-shr, shr_le, ones_le_self}
use Rattle.std.proofs.lemmas.Nat.Bits.{bit_at_ones, bit_at_lowest, bit_at-suc, bit_at-zero, bit_at_above, bit_at-trailing_ones, bit_at-trailing_zeros}
use Rattle.std.specs.Int.{bit_at, trailing_ones, trailing_zeros}
use Rattle.std.specs.Int.RustNames.{count_ones}
use lib.Count.{ones_step}

-- the bit of a number
abbrev pub has : List ℕ → ℕ → Bool
has words n = nat_eq (bit_at (get_or words (n / 64) 0) (n % 64)) 1

module _ (words : List ℕ) (n word : ℕ) (within : n / 64 < length words) where
  at_word : (m : ℕ) → m / 64 ≡ n / 64 → get_or (set words (n / 64) word) (m / 64) 0 ≡ word
  at_word m same = get_or-set_at words (n / 64) (m / 64) word 0 same within

  pub has-set : (b : Bool) → nat_eq (bit_at word (n % 64)) 1 ≡ b → has (set words (n / 64) word) n ≡ b
  has-set b bit = ap (λ x. nat_eq (bit_at x (n % 64)) 1) (at_word n refl) ∙ bit

  pub has-set_other : ((i : ℕ) → i < 64 → i ≢ n % 64 → bit_at word i ≡ bit_at (get_or words (n / 64) 0) i)
      → (m : ℕ) → m ≢ n → has (set words (n / 64) word) m ≡ has words m
  has-set_other kept m other =
      elim (cases_eq (m / 64) (n / 64)) [
        | inl same ↦
            ap (λ x. nat_eq (bit_at x (m % 64)) 1) (at_word m same)
            ∙ ap (λ b. nat_eq b 1) (kept (m % 64) (omega arith) (omega arith) ∙ ap (λ j. bit_at (get_or words j 0) (m % 64)) (sym same))
        | inr apart ↦ ap (λ x. nat_eq (bit_at x (m % 64)) 1) (get_or-set_other words (n / 64) (m / 64) word 0 apart)
      ]

-- the first words have ones alone
abbrev pub FullBelow : List ℕ → ℕ → Type 0
FullBelow words w = (j : ℕ) → j < w → get_or words j 0 ≡ 2 ^ 64 - 1

pub has_full : (words : List ℕ) (w k : ℕ) → FullBelow words w → k < 64 * w → has words k ≡ true
has_full words w k full p = rw (full (k / 64) (omega arith)) (eq-eqb _ 1 (bit_at_ones 64 (k % 64) (omega arith)))

-- the number of a bit
has_at : (words : List ℕ) (w i n : ℕ) (b : Bool) → i < 64 → n ≡ 64 * w + i → nat_eq (bit_at (get_or words w 0) i) 1 ≡ b → has words n ≡ b
has_at words w i n b within e bit =
    let word : n / 64 ≡ w = omega arith in
    let place : n % 64 ≡ i = omega arith in
    rw (word, place) bit

-- the first words have ones alone, and the next one is not ones alone
module _ (words : List ℕ) (w : ℕ) (full : FullBelow words w) (fits : get_or words w 0 + 1 < 2 ^ 64) where
  pub has_not_lowest : has words (64 * w + trailing_ones w64 (get_or words w 0)) ≡ false
  has_not_lowest =
      let found = bit_at-trailing_ones w64 (get_or words w 0) fits in
      has_at words w _ _ false found.0 refl (ap (λ b. nat_eq b 1) found.1)

  pub has_below_lowest : (k : ℕ) → k < 64 * w + trailing_ones w64 (get_or words w 0) → has words k ≡ true
  has_below_lowest k p =
      let found = bit_at-trailing_ones w64 (get_or words w 0) fits in
      elim (cases_lt k (64 * w)) [
        | inl before ↦ has_full words w k full before
        | inr after ↦ has_at words w (k - 64 * w) k true (omega (arith, found.0)) (omega arith) (eq-eqb _ 1 (found.2 (k - 64 * w) (omega arith)))
      ]

-- the bits of a word from one of its numbers on
module _ (words : List ℕ) (n : ℕ) where
  abbrev word : ℕ
  word = get_or words (n / 64) 0

  abbrev pub rest : ℕ
  rest = word / 2 ^ (n % 64)

  has_rest : (k : ℕ) (b : Bool) → n ≤ k → k < 64 * (n / 64 + 1) → nat_eq (bit_at rest (k - n)) 1 ≡ b → has words k ≡ b
  has_rest k b from within bit =
      let same : bit_at word (n % 64 + (k - n)) ≡ bit_at rest (k - n) = ap (λ x. x % 2) (sym (shr-shr word (n % 64) (k - n))) in
      has_at words (n / 64) (n % 64 + (k - n)) k b (omega arith) (omega arith) (ap (λ x. nat_eq x 1) same ∙ bit)

  pub has_none_left : rest ≡ 0 → (k : ℕ) → n ≤ k → k < 64 * (n / 64 + 1) → has words k ≡ false
  has_none_left none k from within = has_rest k false from within (ap (λ x. nat_eq (bit_at x (k - n)) 1) none ∙ ap (λ x. nat_eq x 1) (bit_at-zero (k - n)))

  module _ (fits : word < 2 ^ 64) (some : 0 < rest) where
    lowest : (trailing_zeros w64 rest < 64) × (bit_at rest (trailing_zeros w64 rest) ≡ 1) × ((i : ℕ) → i < trailing_zeros w64 rest → bit_at rest i ≡ 0)
    lowest = bit_at-trailing_zeros w64 rest some (omega (arith, shr_le word (n % 64)))

    pub next_within : n + trailing_zeros w64 rest < 64 * (n / 64 + 1)
    next_within = elim (cases_lt (n % 64 + trailing_zeros w64 rest) 64) [
      | inl below ↦ omega arith
      | inr past ↦
          let gone = bit_at_above word 64 (n % 64 + trailing_zeros w64 rest) fits past in
          let same : bit_at word (n % 64 + trailing_zeros w64 rest) ≡ bit_at rest (trailing_zeros w64 rest) = ap (λ x. x % 2) (sym (shr-shr word (n % 64) (trailing_zeros w64 rest))) in
          absurd (omega (arith, gone, same, lowest.1))
    ]

    pub has_next : has words (n + trailing_zeros w64 rest) ≡ true
    has_next =
        let place : n + trailing_zeros w64 rest - n ≡ trailing_zeros w64 rest = omega arith in
        has_rest (n + trailing_zeros w64 rest) true (omega arith) next_within (ap (λ i. nat_eq (bit_at rest i) 1) place ∙ eq-eqb _ 1 lowest.1)

    pub has_none_before : (k : ℕ) → n ≤ k → k < n + trailing_zeros w64 rest → has words k ≡ false
    has_none_before k from before = has_rest k false from (omega (arith, next_within)) (ap (λ x. nat_eq x 1) (lowest.2 (k - n) (omega arith)))

-- How many bits are 1

-- those of a number that has a bit for each of a list
ones_counted : (bs : List Bool) (n : ℕ) → n < 2 ^ length bs → ((i : ℕ) → i < length bs → nat_eq (bit_at n i) 1 ≡ get_or bs i false) → count_ones n ≡ count_by (λ b. b) bs
ones_counted [] n fits bits = omega (arith, ones_le_self n)
ones_counted (b ∷ bs) n fits bits =
    let rest = ones_counted bs (n / 2) (omega (arith, pow-suc 2 (length bs))) (λ i within. ap (λ x. nat_eq x 1) (sym (bit_at-suc n i)) ∙ bits (suc i) (omega arith)) in
    let first = one_bit b (n % 2) (omega arith) (ap (λ x. nat_eq x 1) (sym (bit_at_lowest n)) ∙ bits 0 (omega arith)) in
    ones_step n ∙ ap (λ m. m + count_ones (n / 2)) first ∙ ap (λ m. cond b 1 0 + m) rest ∙ sym (sum_by-cons (λ (c : Bool). cond c 1 0) b bs)
  where
    one_bit : (c : Bool) (m : ℕ) → m < 2 → nat_eq m 1 ≡ c → m ≡ cond c 1 0
    one_bit true m small h = eqb-true m 1 h
    one_bit false m small h = let other = eqb-false m 1 h in omega arith

-- those of some words from one on
abbrev ones_from : List ℕ → ℕ → ℕ → ℕ
ones_from words w zero = 0
ones_from words w (suc n) = count_ones (get_or words w 0) + ones_from words (suc w) n

words_counted : (words : List ℕ) (n w : ℕ) (bs : List Bool) → ((j : ℕ) → get_or words j 0 < 2 ^ 64) → length bs ≡ 64 * n
    → ((k : ℕ) → k < 64 * n → has words (64 * w + k) ≡ get_or bs k false) → ones_from words w n ≡ count_by (λ b. b) bs
words_counted words zero w [] fits long bits = refl
words_counted words zero w (b ∷ bs) fits long bits = absurd (omega arith)
words_counted words (suc n) w bs fits long bits =
    let wide : length (take 64 bs) ≡ 64 = length-take-le 64 bs (omega arith) in
    let here = ones_counted (take 64 bs) (get_or words w 0) (subst (λ m. get_or words w 0 < 2 ^ m) (sym wide) (fits w))
    (λ i within. let l : i < 64 = omega (arith, within, wide) in in_word i l ∙ bits i (omega arith) ∙ sym (get_or-take 64 bs i false l)) in
    let later = words_counted words n (suc w) (drop 64 bs) fits (omega (arith, length-drop 64 bs, long))
    (λ k within. let e : 64 * suc w + k ≡ 64 * w + (64 + k) = omega arith in ap (has words) e ∙ bits (64 + k) (omega arith) ∙ sym (get_or-drop 64 bs k false)) in
    omega (arith, here, later, sum_by-append (λ (b : Bool). cond b 1 0) (take 64 bs) (drop 64 bs), ap (count_by (λ b. b)) (take-append-drop 64 bs))
  where
    in_word : (i : ℕ) → i < 64 → nat_eq (bit_at (get_or words w 0) i) 1 ≡ has words (64 * w + i)
    in_word i l = sym (has_at words w i (64 * w + i) (nat_eq (bit_at (get_or words w 0) i) 1) l refl refl)

-- those of four words
pub four_counted : (words : List ℕ) (bs : List Bool) → ((j : ℕ) → get_or words j 0 < 2 ^ 64) → length bs ≡ 256 → ((k : ℕ) → k < 256 → has words k ≡ get_or bs k false)
    → count_ones (get_or words 0 0) + count_ones (get_or words 1 0) + (count_ones (get_or words 2 0) + count_ones (get_or words 3 0)) ≡ count_by (λ b. b) bs
four_counted words bs fits long bits = omega (arith, words_counted words 4 0 bs fits long (λ k l. let e : 64 * 0 + k ≡ k = omega arith in ap (has words) e ∙ bits k l))
