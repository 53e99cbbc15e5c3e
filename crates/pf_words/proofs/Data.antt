-- Data by the place of its star.

use Rattle.std.proofs.Common.{◌≡◌, ℕ, ◌+◌, ◌≤◌, List, take, drop, replicate, Some, None, ap, refl}
use Rattle.std.proofs.lemmas.List.{take-replicate}
use Rattle.memchr.specs.Find.{IsFirstByte, is_byte}
use Rattle.pf_base.specs.declared.TheConstants.{BYTES_IN_PLACE}
use Rattle.pf_words.specs.Words.{pieces_of, hex_bytes, repeated, bytes_of_parts}
use Rattle.pf_words.proofs.CutLaws.{front, whole, some_piece}

pub no_star : (word : List ℕ) → IsFirstByte (is_byte 42) word None → bytes_of_parts (pieces_of 42 word) ≡ hex_bytes word
no_star word none = ap bytes_of_parts (whole 42 word none)

pub one_star : (word count pair : List ℕ) (k : ℕ) → IsFirstByte (is_byte 42) word (Some k) → count ≡ take k word → pair ≡ drop (k + 1) word → IsFirstByte (is_byte 42) pair None →
    bytes_of_parts (pieces_of 42 word) ≡ repeated count pair
one_star word count pair k first is behind none =
    rw (front 42 word k first, ← is, ← behind, whole 42 pair none) refl

pub more_stars : (word pair : List ℕ) (k j : ℕ) → IsFirstByte (is_byte 42) word (Some k) → pair ≡ drop (k + 1) word → IsFirstByte (is_byte 42) pair (Some j) →
    bytes_of_parts (pieces_of 42 word) ≡ None
more_stars word pair k j first behind second =
    let more = some_piece 42 (drop (j + 1) pair) in
    rw (front 42 word k first, ← behind, front 42 pair j second, more.2) refl

-- a byte that is repeated throughout the place begins with as many as are wanted
pub repeated_in_place : (count byte : ℕ) → count ≤ BYTES_IN_PLACE → take count (replicate BYTES_IN_PLACE byte) ≡ replicate count byte
repeated_in_place count byte few = take-replicate count BYTES_IN_PLACE byte few
