-- Numbers that are written, and read again.

use Rattle.std.proofs.Common.{◌≡◌, ℕ, ◌+◌, ◌-◌, ◌*◌, ◌/◌, ◌%◌, ◌^◌, ◌<◌, ◌≤◌, List, [], ◌∷◌, ◌++◌, length, get_or}
use Rattle.std.proofs.Common.{Some, None, refl, ap, arith, ◌∙◌, inl, inr}
use Rattle.std.specs.Prelude.{decimal, nat_le, nat_lt, Bool, true, false, not, ◌==◌, Ok}
use Rattle.std.specs.Option.{option_and_then}
use Rattle.std.specs.List.{list_all}
use Rattle.std.proofs.lemmas.Bool.{le-leb, lt-ltb, ne_eqb, cases_eq}
use Rattle.std.proofs.lemmas.List.Folds.{list_all-append}
use Rattle.std.proofs.lemmas.Fmt.{decimal_by_steps, decimal_digit, decimal_nonempty, first_decimal}
use Rattle.pf_words.specs.declared.cause.Cause.TheVariants as causes
use Rattle.pf_words.specs.Words.{digit, digits_from, is_canonical, number}
use Rattle.pf_words.specs.Arguments.{u32_at, u64_at, octal_at, or_cause}
use Rattle.pf_words.specs.Spelling.{octal_word, is_inner}

-- a digit's value
digit_is : (base d : ℕ) → d < base → digit base (48 + d) ≡ Some d
digit_is base d low =
    let first : nat_le 48 (48 + d) ≡ true = le-leb 48 (48 + d) (omega arith) in
    let second : nat_lt (48 + d) (48 + base) ≡ true = lt-ltb (48 + d) (48 + base) (omega arith) in
    let back : 48 + d - 48 ≡ d = omega arith in
    rw (first, second, back) refl

-- a digit behind others
digits-append : (base n c : ℕ) (ds : List ℕ) →
    digits_from base n (ds ++ c ∷ []) ≡
    option_and_then (λ m. option_and_then (λ d. Some (m * base + d)) (digit base c)) (digits_from base n ds)
unfolding digits_from
digits-append base n c [] = refl
digits-append base n c (x ∷ ds) =
    elim (digit base x) as (λ r. option_and_then (λ d. digits_from base (n * base + d) (ds ++ c ∷ [])) r
    ≡ option_and_then (λ m. option_and_then (λ d. Some (m * base + d)) (digit base c))
    (option_and_then (λ d. digits_from base (n * base + d) ds) r)) [
      | None ↦ refl
      | Some d ↦ digits-append base (n * base + d) c ds
    ]

reads_digit : (n : ℕ) → n < 10 → digits_from 10 0 ((48 + n) ∷ []) ≡ Some n
unfolding digits_from
reads_digit n low = let same : 0 * 10 + n ≡ n = omega arith in rw (digit_is 10 n low, same) refl

reads_more : (n : ℕ) (ds : List ℕ) → 10 ≤ n → digits_from 10 0 ds ≡ Some (n / 10) →
    digits_from 10 0 (ds ++ ((48 + n % 10) ∷ [])) ≡ Some n
reads_more n ds high front =
    let same : n / 10 * 10 + n % 10 ≡ n = omega arith in
    digits-append 10 0 (48 + n % 10) ds ∙ rw (front, digit_is 10 (n % 10) (omega arith), same) refl

reads_decimal : (n : ℕ) → n < 2 ^ 64 → digits_from 10 0 (decimal n) ≡ Some n
reads_decimal n low = decimal_by_steps (λ n ds. digits_from 10 0 ds ≡ Some n) reads_digit reads_more n low

canonical_by_first : (ds : List ℕ) → 0 < length ds → 48 < get_or ds 0 0 → is_canonical ds ≡ true
canonical_by_first [] some first = absurd (omega arith)
canonical_by_first (c ∷ []) some first = refl
canonical_by_first (c ∷ d ∷ ds) some first =
    let other : (c == 48) ≡ false = ne_eqb c 48 (λ is. omega arith) in rw other refl

canonical_decimal : (n : ℕ) → n < 2 ^ 64 → is_canonical (decimal n) ≡ true
canonical_decimal n low =
    elim (cases_eq n 0) [
      | inl zero ↦ let digit : decimal n ≡ (48 + n) ∷ [] = decimal_digit n (omega arith) in rw digit refl
      | inr other ↦ canonical_by_first (decimal n) (decimal_nonempty n low) (first_decimal n (omega arith) low)
    ]

-- a number in decimal is read as that number
pub number_again : (most n : ℕ) → n ≤ most → n < 2 ^ 64 → number most (decimal n) ≡ Some n
number_again most n within low =
    let fits : nat_le n most ≡ true = le-leb n most within in
    rw (canonical_decimal n low, reads_decimal n low, fits) refl

pub u32_again : (n : ℕ) → n < 2 ^ 32 → u32_at (decimal n) ≡ Ok n
u32_again n low = ap (λ r. or_cause r causes.BadNumber) (number_again 4294967295 n (omega arith) (omega arith))

pub u64_again : (n : ℕ) → n < 2 ^ 64 → u64_at (decimal n) ≡ Ok n
u64_again n low = ap (λ r. or_cause r causes.BadNumber) (number_again 18446744073709551615 n (omega arith) low)

-- a mode in octal digits is read as that mode
pub octal_again : (m : ℕ) → m < 4096 → octal_at (octal_word m) ≡ Ok m
unfolding digits_from
octal_again m low =
    let a : digit 8 (48 + m / 512) ≡ Some (m / 512) = digit_is 8 (m / 512) (omega arith) in
    let b : digit 8 (48 + m / 64 % 8) ≡ Some (m / 64 % 8) = digit_is 8 (m / 64 % 8) (omega arith) in
    let c : digit 8 (48 + m / 8 % 8) ≡ Some (m / 8 % 8) = digit_is 8 (m / 8 % 8) (omega arith) in
    let d : digit 8 (48 + m % 8) ≡ Some (m % 8) = digit_is 8 (m % 8) (omega arith) in
    let same : (((0 * 8 + m / 512) * 8 + m / 64 % 8) * 8 + m / 8 % 8) * 8 + m % 8 ≡ m = omega arith in
    let fits : nat_le m 4095 ≡ true = le-leb m 4095 (omega arith) in
    rw (a, b, c, d, same, fits) refl

-- The bytes of numbers

-- each digit passes a test that bytes from 48 on pass
pub decimal_passes : (p : ℕ → Bool) → ((c : ℕ) → 48 ≤ c → p c ≡ true) → (n : ℕ) → n < 2 ^ 64 →
    list_all p (decimal n) ≡ true
decimal_passes p above n low =
    decimal_by_steps (λ n ds. list_all p ds ≡ true)
    (λ n small. rw (above (48 + n) (omega arith)) refl)
    (λ n ds large front. list_all-append p ds ((48 + n % 10) ∷ []) ∙ rw (front, above (48 + n % 10) (omega arith)) refl)
    n low

pub octal_passes : (p : ℕ → Bool) → ((c : ℕ) → 48 ≤ c → p c ≡ true) → (m : ℕ) → list_all p (octal_word m) ≡ true
octal_passes p above m =
    rw (
      above (48 + m / 512) (omega arith),
      above (48 + m / 64 % 8) (omega arith),
      above (48 + m / 8 % 8) (omega arith),
      above (48 + m % 8) (omega arith),
    ) refl

-- bytes from 48 on are no spaces, line feeds, commas or stars
pub is_other : (k c : ℕ) → k < 48 → 48 ≤ c → not (c == k) ≡ true
is_other k c low high = let other : (c == k) ≡ false = ne_eqb c k (λ is. omega arith) in rw other refl

pub is_inner_above : (c : ℕ) → 48 ≤ c → is_inner c ≡ true
is_inner_above c high = rw (is_other 32 c (omega arith) high, is_other 10 c (omega arith) high) refl
