-- Numbers with commas between them, read piece by piece.

use Rattle.std.proofs.Common.{◌≡◌, ℕ, ◌+◌, List, [], ◌∷◌, ◌++◌, take, drop, Option, Some, None, ap, sym}
use Rattle.std.specs.Prelude.{Ok, Err}
use Rattle.memchr.specs.Find.{IsFirstByte, is_byte}
use Rattle.pf_words.specs.declared.cause.Cause.{Cause}
use Rattle.pf_words.specs.Arguments.{or_cause}
use Rattle.pf_words.specs.Words.{number, numbers_onto, numbers_of, pieces_of}
use Rattle.pf_words.proofs.CutLaws.{front, whole}

-- a number more
pub goes_on : (numbers rest piece : List ℕ) (k n : ℕ) (all : Option (List ℕ)) → IsFirstByte (is_byte 44) rest (Some k) → piece ≡ take k rest → number 4294967295 piece ≡ Some n →
    numbers_onto numbers (pieces_of 44 rest) ≡ all → numbers_onto (numbers ++ n ∷ []) (pieces_of 44 (drop (k + 1) rest)) ≡ all
unfolding numbers_onto
goes_on numbers rest piece k n all first is read same = rw (front 44 rest k first, ← is, read) at same

-- a piece that is no number
pub fails : (numbers rest piece word : List ℕ) (k : ℕ) (cause : Cause) → IsFirstByte (is_byte 44) rest (Some k) → piece ≡ take k rest → number 4294967295 piece ≡ None →
    numbers_onto numbers (pieces_of 44 rest) ≡ numbers_of word → or_cause (numbers_of word) cause ≡ Err cause
unfolding numbers_onto
fails numbers rest piece word k cause first is read same =
    let none = rw (front 44 rest k first, ← is, read) at same in
    ap (λ r. or_cause r cause) (sym none)

last : (numbers rest : List ℕ) (all : Option (List ℕ)) → IsFirstByte (is_byte 44) rest None → numbers_onto numbers (pieces_of 44 rest) ≡ all → numbers_onto numbers (rest ∷ []) ≡ all
last numbers rest all none same = rw (whole 44 rest none) at same

-- the last piece
pub last_fails : (numbers rest word : List ℕ) (cause : Cause) → IsFirstByte (is_byte 44) rest None → number 4294967295 rest ≡ None →
    numbers_onto numbers (pieces_of 44 rest) ≡ numbers_of word → or_cause (numbers_of word) cause ≡ Err cause
unfolding numbers_onto
last_fails numbers rest word cause none read same =
    let here = rw read at (last numbers rest (numbers_of word) none same) in
    ap (λ r. or_cause r cause) (sym here)

pub is_done : (numbers rest word : List ℕ) (n : ℕ) (cause : Cause) → IsFirstByte (is_byte 44) rest None → number 4294967295 rest ≡ Some n →
    numbers_onto numbers (pieces_of 44 rest) ≡ numbers_of word → or_cause (numbers_of word) cause ≡ Ok (numbers ++ n ∷ [])
unfolding numbers_onto
is_done numbers rest word n cause none read same =
    let here = rw read at (last numbers rest (numbers_of word) none same) in
    ap (λ r. or_cause r cause) (sym here)
