-- Words that are read, by computation.

use Rattle.std.proofs.Common.{◌≡◌, [], ◌∷◌, refl}
use Rattle.std.specs.Prelude.{codes, Some, None, Ok, Err}
use Rattle.pf_base.specs.declared.step.Step.TheVariants.{Open, Resume}
use Rattle.pf_words.specs.declared.cause.Cause.TheVariants as causes
use Rattle.pf_words.specs.Words.{pieces_of, digits_from, bytes_of}
use Rattle.pf_words.specs.Arguments.{flags_with, flags_at, pid_of}
use Rattle.pf_words.specs.Verbs.{step_words, call_of, crossing_call, process_call, file_call, open_of, open_with}
use Rattle.hex.specs.Hex.{decode_pairs}

-- a byte so many times, and what is none
pub three_times : bytes_of (codes "3*61") ≡ Some (codes "aaa")
unfolding pieces_of digits_from decode_pairs
three_times = refl

pub no_time : bytes_of (codes "0*61") ≡ None
unfolding pieces_of digits_from decode_pairs
no_time = refl

pub leading_zero : bytes_of (codes "03*61") ≡ None
unfolding pieces_of digits_from decode_pairs
leading_zero = refl

pub half_a_byte : bytes_of (codes "3*6") ≡ None
unfolding pieces_of digits_from decode_pairs
half_a_byte = refl

pub two_stars : bytes_of (codes "3*61*61") ≡ None
unfolding pieces_of digits_from decode_pairs
two_stars = refl

pub capitals : bytes_of (codes "4A4b") ≡ Some (codes "JK")
unfolding pieces_of digits_from decode_pairs
capitals = refl

-- an open for both sides, with O_NONBLOCK, and one whose flags stand in another order
pub opens_both : step_words (codes "open" ∷ codes "1" ∷ codes "/f" ∷ codes "rwn" ∷ []) ≡ Ok (Open 1 (codes "/f") (flags_with 7))
unfolding step_words call_of crossing_call process_call file_call open_of open_with digits_from
opens_both = refl

pub other_order : step_words (codes "open" ∷ codes "1" ∷ codes "/f" ∷ codes "nr" ∷ []) ≡ Err causes.BadFlags
unfolding step_words call_of crossing_call process_call file_call open_of open_with digits_from
other_order = refl

-- O_NONBLOCK alone opens no side
pub no_side : flags_at (codes "n") ≡ Err causes.BadFlags
no_side = refl

pub tried_again : step_words (codes "resume" ∷ codes "2" ∷ []) ≡ Ok (Resume 2)
unfolding step_words call_of crossing_call process_call pid_of digits_from
tried_again = refl
