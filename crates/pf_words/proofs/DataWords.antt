-- Bytes, groups and flags that are written, and read again.

use Rattle.std.proofs.Common.{◌≡◌, ℕ, ◌%◌, ◌<◌, ◌≤◌, List, [], ◌∷◌, ◌++◌, length, map, Some, refl, ap, arith}
use Rattle.std.proofs.Common.{append_assoc, ◌∙◌, suc, zero}
use Rattle.std.proofs.lemmas.List.{append-nil}
use Rattle.std.specs.Prelude.{Bool, true, false, not, ◌==◌, ◌&&◌, codes, bytes_eq, decimal, Ok}
use Rattle.std.specs.List.{list_all, AllByRecursion}
use Rattle.std.proofs.lemmas.List.Sums.{list_all-from_AllPass}
use Rattle.std.proofs.lemmas.Bool.{ne_eqb}
use Rattle.std.proofs.lemmas.Bool.Decides.{nat_tests}
use Rattle.std.proofs.lemmas.Fmt.{decimal_nonempty}
use Rattle.hex.specs.Hex.{IsBytes, encode_lower, encode_with, lower_digits, is_hex_digit}
use Rattle.hex.proofs.HexLemmas.{decode_of-encode_lower, decode_of-ok, length-encode_with}
use Rattle.pf_base.specs.declared.open_flags.OpenFlags.{OpenFlags}
use Rattle.pf_words.specs.declared.cause.Cause.TheVariants as causes
use Rattle.pf_words.specs.Words.{numbers_onto}
use Rattle.pf_words.specs.Arguments.{or_cause, groups_at, switch_at, flags_at, flags_with, bytes_at}
use Rattle.pf_words.specs.Spelling.{joined, groups_words, flag_words, switch_word, flags_word, bytes_word, is_inner}
use Rattle.pf_words.specs.Spelling.{IsWord, Is32, IsAccess}
use Rattle.pf_words.proofs.NumberWords.{number_again, decimal_passes, is_other, is_inner_above}
use Rattle.pf_words.proofs.JoinLaws.{Lacks, one_piece, cut_again, joined_passes, joined_some, passes_too}

-- Groups

groups_onto : (numbers groups : List ℕ) → AllByRecursion Is32 groups →
    numbers_onto numbers (map (λ n. decimal n) groups) ≡ Some (numbers ++ groups)
unfolding numbers_onto
groups_onto numbers [] all = rw (append-nil numbers) refl
groups_onto numbers (group ∷ groups) all =
    rw (number_again 4294967295 group (omega (arith, all.0)) (omega (arith, all.0)))
    (groups_onto (numbers ++ group ∷ []) groups all.1 ∙ ap (λ ns. Some ns) (append_assoc numbers (group ∷ []) groups))

lack_commas : (groups : List ℕ) → AllByRecursion Is32 groups → AllByRecursion (Lacks 44) (map (λ n. decimal n) groups)
lack_commas [] all = tt
lack_commas (group ∷ groups) all = (
  decimal_passes (λ c. not (c == 44)) (λ c high. is_other 44 c (omega arith) high) group (omega (arith, all.0)),
  lack_commas groups all.1,
)

-- group ids with commas between them are read as these
pub groups_again : (group : ℕ) (groups : List ℕ) → AllByRecursion Is32 (group ∷ groups) →
    groups_at (Some (joined 44 (map (λ n. decimal n) (group ∷ groups)))) ≡ Ok (group ∷ groups)
groups_again group groups all =
    ap (λ r. or_cause r causes.BadNumber)
    (ap (λ pieces. numbers_onto [] pieces)
    (cut_again 44 (decimal group) (map (λ n. decimal n) groups) (lack_commas (group ∷ groups) all))
    ∙ groups_onto [] (group ∷ groups) all)

inner_groups : (groups : List ℕ) → AllByRecursion Is32 groups →
    AllByRecursion (λ text. list_all is_inner text ≡ true) (map (λ n. decimal n) groups)
inner_groups [] all = tt
inner_groups (group ∷ groups) all =
    (decimal_passes is_inner is_inner_above group (omega (arith, all.0)), inner_groups groups all.1)

pub groups_are_words : (groups : List ℕ) → AllByRecursion Is32 groups → AllByRecursion IsWord (groups_words groups)
groups_are_words [] all = tt
groups_are_words (group ∷ groups) all = (
  record {
    some = joined_some 44 (decimal group) (map (λ n. decimal n) groups) (decimal_nonempty group (omega (arith, all.0)));
    inner = joined_passes is_inner 44 (map (λ n. decimal n) (group ∷ groups)) refl (inner_groups (group ∷ groups) all);
  },
  tt,
)

-- Flags

pub switch_again : (on : Bool) → switch_at (switch_word on) ≡ Ok on
switch_again true = refl
switch_again false = refl

pub switch_is_word : (on : Bool) → IsWord (switch_word on)
switch_is_word true = record { some = omega arith; inner = refl }
switch_is_word false = record { some = omega arith; inner = refl }

pub flag_is_word : (nonblock : Bool) → AllByRecursion IsWord (flag_words nonblock)
flag_is_word true = (record { some = omega arith; inner = refl }, tt)
flag_is_word false = tt

-- each number below 8 that isn't 0 or 4
by_access : (P : ℕ → Type 0) → P 1 → P 2 → P 3 → P 5 → P 6 → P 7 → (n : ℕ) → n < 8 → 0 < n % 4 → P n
by_access P p1 p2 p3 p5 p6 p7 zero low some = absurd (omega (arith, some))
by_access P p1 p2 p3 p5 p6 p7 (suc zero) low some = p1
by_access P p1 p2 p3 p5 p6 p7 (suc (suc zero)) low some = p2
by_access P p1 p2 p3 p5 p6 p7 (suc (suc (suc zero))) low some = p3
by_access P p1 p2 p3 p5 p6 p7 (suc (suc (suc (suc zero)))) low some = absurd (omega (arith, some))
by_access P p1 p2 p3 p5 p6 p7 (suc (suc (suc (suc (suc zero))))) low some = p5
by_access P p1 p2 p3 p5 p6 p7 (suc (suc (suc (suc (suc (suc zero)))))) low some = p6
by_access P p1 p2 p3 p5 p6 p7 (suc (suc (suc (suc (suc (suc (suc zero))))))) low some = p7
by_access P p1 p2 p3 p5 p6 p7 (suc (suc (suc (suc (suc (suc (suc (suc n)))))))) low some = absurd (omega arith)

pub flags_again : (flags : OpenFlags) → IsAccess flags → flags_at (flags_word flags) ≡ Ok flags
flags_again flags access =
    by_access (λ n. flags_at (flags_word (flags_with n)) ≡ Ok (flags_with n)) refl refl refl refl refl refl flags.0
    access.0 access.1

pub flags_is_word : (flags : OpenFlags) → IsAccess flags → IsWord (flags_word flags)
flags_is_word flags access =
    by_access (λ n. IsWord (flags_word (flags_with n)))
    (record { some = omega arith; inner = refl })
    (record { some = omega arith; inner = refl })
    (record { some = omega arith; inner = refl })
    (record { some = omega arith; inner = refl })
    (record { some = omega arith; inner = refl })
    (record { some = omega arith; inner = refl })
    flags.0 access.0 access.1

-- Bytes

above : (c : ℕ) → is_hex_digit c ≡ true → 48 ≤ c
above c is = grind (arith, nat_tests)

hex_passes : (p : ℕ → Bool) → ((c : ℕ) → 48 ≤ c → p c ≡ true) → (bytes : List ℕ) → IsBytes bytes →
    list_all p (encode_lower bytes) ≡ true
hex_passes p high bytes fits =
    let digits = (decode_of-ok (encode_lower bytes) bytes (decode_of-encode_lower bytes fits)).1 in
    passes_too is_hex_digit p (λ c is. high c (above c is)) (encode_lower bytes)
    (list_all-from_AllPass is_hex_digit (encode_lower bytes) digits)

and_false : (b : Bool) → (b && false) ≡ false
and_false true = refl
and_false false = refl

is_no_dash : (b : ℕ) (bs : List ℕ) → bytes_eq (encode_lower (b ∷ bs)) (codes "-") ≡ false
unfolding encode_with
is_no_dash b bs = and_false _

has_digits : (b : ℕ) (bs : List ℕ) → (length (encode_lower (b ∷ bs)) == 0) ≡ false
has_digits b bs =
    ne_eqb (length (encode_lower (b ∷ bs))) 0 (λ is. omega (arith, length-encode_with lower_digits (b ∷ bs), is))

-- bytes in hexadecimal digits are read as these bytes
pub bytes_again : (bytes : List ℕ) → IsBytes bytes → bytes_at (bytes_word bytes) ≡ Ok bytes
bytes_again [] fits = refl
bytes_again (b ∷ bs) fits =
    let word = encode_lower (b ∷ bs) in
    let no_star = λ (c : ℕ) (high : 48 ≤ c). is_other 42 c (omega arith) high in
    let whole = one_piece 42 word (hex_passes (λ c. not (c == 42)) no_star (b ∷ bs) fits) in
    rw (is_no_dash b bs, whole, has_digits b bs, decode_of-encode_lower (b ∷ bs) fits) refl

pub bytes_is_word : (bytes : List ℕ) → IsBytes bytes → IsWord (bytes_word bytes)
bytes_is_word [] fits = record { some = omega arith; inner = refl }
bytes_is_word (b ∷ bs) fits = record {
  some = omega (arith, length-encode_with lower_digits (b ∷ bs));
  inner = hex_passes is_inner is_inner_above (b ∷ bs) fits;
}
