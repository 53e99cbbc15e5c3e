-- Scripts that are read, by computation.

use Rattle.std.proofs.Common.{◌≡◌, ℕ, ◌+◌, ◌*◌, ◌^◌, List, [], ◌∷◌, ◌++◌, replicate, refl, ap, ◌∙◌, arith}
use Rattle.std.proofs.lemmas.Nat.{ones-le, ones_cat, pow_pos}
use Rattle.std.specs.Int.Count.{ones_step}
use Rattle.std.specs.Prelude.{count_ones, ◌==◌, codes, Bool, true, false, not, ◌&&◌, if◌then◌else◌, Result, Ok, Err}
use Rattle.std.specs.Int.{is_power_of_two}
use Rattle.pf_base.specs.declared.config.ConfigFault.TheVariants.{BadMax}
use Rattle.pf_words.specs.declared.cause.Cause.TheVariants as causes
use Rattle.pf_script.specs.declared.refusal.Refusal.{Refusal}
use Rattle.pf_base.specs.declared.step.Step.TheVariants.{Spawn, Exit, Pipe, Close, Read, Write}
use Rattle.pf_script.specs.declared.line.Line.{Line}
use Rattle.pf_script.specs.declared.line.Line.TheVariants as lines
use Rattle.pf_base.specs.Limits.{Limits}
use Rattle.pf_words.specs.declared.cause.Cause.{Cause}
use Rattle.pf_script.specs.Script.{Draft, read_script, blank, lines_from, line_of, rest_of, words_line, first_word_line, pool_line, pool_with, space_line, space_words, space_with, fresh_limits, limits_with, limits_or_cause, with_limits, numbered, step_line, admitted, admit_line, admit_with, retire_line, retire_with}
use Rattle.pf_words.specs.Words.{pieces_of, digits_from}
use Rattle.pf_words.specs.Arguments.{◌>>=◌, pid_of, descriptor_of, descriptor_with, sized_of, sized_with}
use Rattle.pf_words.specs.Verbs.{step_words, call_of, crossing_call, process_call, spawn_of, spawn_with, pipe_of, pipe_with, write_of, write_with}
use Rattle.hex.specs.Hex.{decode_pairs}

-- an empty script says nothing
pub empty : read_script [] ≡ Ok blank
unfolding pieces_of lines_from rest_of
empty = refl

-- a pool line alone
pub pool_alone : read_script (codes "pool 4\n") ≡ Ok (record { frames = 4; opening = 0; spaces = []; steps = [] })
unfolding pieces_of lines_from rest_of line_of words_line first_word_line pool_line pool_with digits_from
pool_alone = refl

-- a power of two has one digit
one_digit : (k : ℕ) → count_ones (1 * 2 ^ k + 0) ≡ 1
one_digit k = ones_cat k 1 0 (pow_pos k) ∙ (λ i. (ones_of_1 i) + (ones_of_0 i))
  where
    ones_of_0 : count_ones 0 ≡ 0
    ones_of_0 = omega (arith, ones-le 0 0 (omega arith))

    ones_of_1 : count_ones 1 ≡ 1
    ones_of_1 = ones_step 1 ∙ ap (λ n. 1 + n) ones_of_0

-- the largest pipe size where a script says none
power : is_power_of_two 1048576 ≡ true
power = ap (λ n. n == 1) (one_digit 20)

-- the limits of a space line, where the largest pipe size is a power of two
abbrev pub limited : ℕ → Bool → Result Limits Cause
limited n p = limits_or_cause (if not (true && true && p) then Err BadMax else Ok (record { reserve = n; soft = 16384; hard = 0; max = 1048576 }))

-- reading on behind it
abbrev pub goes_on : ℕ → List ℕ → ℕ → List ℕ → Bool → Result Draft Refusal
goes_on frames name n rest p =
    numbered 2 (limited n p >>= (λ limits. with_limits (record { frames = frames; opening = 0; spaces = []; steps = [] }) name limits)) (λ e. lines_from e 3 (pieces_of 10 rest))

-- reservations above the pool
pub exceeds : read_script (codes "pool 32\nspace a 33\n") ≡ Err (record { line = 2; cause = causes.ReservationsExceed 33 32 })
unfolding pieces_of lines_from rest_of line_of words_line first_word_line pool_line pool_with space_line space_words space_with fresh_limits limits_with with_limits digits_from
exceeds = ap (goes_on 32 (codes "a") 33 []) power

-- a last line with no line feed
pub cut_short : read_script (codes "pool 16\nspace red 16\nred spawn 5 5 02") ≡ Err (record { line = 3; cause = causes.CutShort })
unfolding pieces_of lines_from rest_of line_of words_line first_word_line pool_line pool_with space_line space_words space_with fresh_limits limits_with with_limits digits_from
cut_short = ap (goes_on 16 (codes "red") 16 (codes "red spawn 5 5 02")) power

-- five bytes through a pipe
abbrev pub hello_draft : Draft
hello_draft = record {
  frames = 16;
  opening = 1;
  spaces = (codes "red", record { reserve = 16; soft = 16384; hard = 0; max = 1048576 }) ∷ [];
  steps = (0, lines.Step (Spawn 5 5 18 [])) ∷ (0, lines.Step (Pipe 1 false)) ∷ (0, lines.Step (Write 1 1 (codes "hello"))) ∷ (0, lines.Step (Read 1 0 3)) ∷ (0, lines.Step (Read 1 0 10)) ∷ (0, lines.Step (Close 1 1)) ∷ (0, lines.Step (Read 1 0 10)) ∷ (0, lines.Step (Exit 1)) ∷ [];
}

pub hello : read_script (codes "pool 16\nspace red 16\nred spawn 5 5 022\nred pipe 1\nred write 1 1 68656c6c6f\nred read 1 0 3\nred read 1 0 10\nred close 1 1\nred read 1 0 10\nred exit 1\n") ≡ Ok hello_draft
unfolding pieces_of lines_from rest_of line_of words_line first_word_line pool_line pool_with space_line space_words space_with fresh_limits limits_with with_limits digits_from step_line step_words call_of crossing_call process_call spawn_of spawn_with pid_of pipe_of pipe_with descriptor_of descriptor_with sized_of sized_with write_of write_with decode_pairs
hello = ap (goes_on 16 (codes "red") 16 (codes "red spawn 5 5 022\nred pipe 1\nred write 1 1 68656c6c6f\nred read 1 0 3\nred read 1 0 10\nred close 1 1\nred read 1 0 10\nred exit 1\n")) power

-- limits where a line gives the reservation alone
abbrev pub usual : ℕ → Limits
usual n = record { reserve = n; soft = 16384; hard = 0; max = 1048576 }

-- a pool line and a space line were read
abbrev pub begun : Draft
begun = record { frames = 17; opening = 1; spaces = (codes "red", usual 16) ∷ []; steps = [] }

-- an admit line has three to six words
admit_nobody : line_of begun (codes "admit") ≡ Err causes.WrongWords
unfolding pieces_of line_of words_line first_word_line admit_line
admit_nobody = refl

admit_a_name_alone : line_of begun (codes "admit Blue") ≡ Err causes.WrongWords
unfolding pieces_of line_of words_line first_word_line admit_line
admit_a_name_alone = refl

admit_seven_words : line_of begun (codes "admit Blue 1 2 3 65536 x") ≡ Err causes.WrongWords
unfolding pieces_of line_of words_line first_word_line admit_line
admit_seven_words = refl

-- then the name is judged, and then whether another has it
admit_a_bad_name : line_of begun (codes "admit Blue x") ≡ Err causes.BadName
unfolding pieces_of line_of words_line first_word_line admit_line admit_with fresh_limits
admit_a_bad_name = refl

admit_a_name_twice : line_of begun (codes "admit red x") ≡ Err causes.NameTwice
unfolding pieces_of line_of words_line first_word_line admit_line admit_with fresh_limits
admit_a_name_twice = refl

-- then how many there are: 64 are no more than may be
abbrev pub with_names : ℕ → Draft
with_names n = record begun { opening = n; spaces = replicate n (codes "red", usual 0) }

admit_twice_among_many : line_of (with_names 64) (codes "admit red x") ≡ Err causes.NameTwice
unfolding pieces_of line_of words_line first_word_line admit_line admit_with fresh_limits
admit_twice_among_many = refl

admit_one_too_many : line_of (with_names 64) (codes "admit blue x") ≡ Err causes.TooManyNamespaces
unfolding pieces_of line_of words_line first_word_line admit_line admit_with fresh_limits
admit_one_too_many = refl

admit_the_last : line_of (with_names 63) (codes "admit blue x") ≡ Err causes.BadNumber
unfolding pieces_of line_of words_line first_word_line admit_line admit_with fresh_limits limits_with digits_from
admit_the_last = refl

-- then the numbers
admit_too_large : line_of begun (codes "admit blue 65537") ≡ Err causes.BadNumber
unfolding pieces_of line_of words_line first_word_line admit_line admit_with fresh_limits limits_with digits_from
admit_too_large = refl

-- what a namespace reserves that a line admits isn't summed
admit_above_the_pool : line_of begun (codes "admit blue 65536") ≡ Ok (admitted begun (codes "blue") (usual 65536))
unfolding pieces_of line_of words_line first_word_line admit_line admit_with fresh_limits limits_with digits_from
admit_above_the_pool = ap (λ p. limited 65536 p >>= (λ limits. Ok (admitted begun (codes "blue") limits))) power

-- a retire line has two words, and then a name that is given
retire_nobody : line_of begun (codes "retire") ≡ Err causes.WrongWords
unfolding pieces_of line_of words_line first_word_line retire_line
retire_nobody = refl

retire_three_words : line_of begun (codes "retire blue 1") ≡ Err causes.WrongWords
unfolding pieces_of line_of words_line first_word_line retire_line
retire_three_words = refl

retire_a_stranger : line_of begun (codes "retire blue") ≡ Err causes.UnknownNamespace
unfolding pieces_of line_of words_line first_word_line retire_line retire_with
retire_a_stranger = refl

retire_one : line_of begun (codes "retire red") ≡ Ok (record begun { steps = (0, lines.Retire) ∷ [] })
unfolding pieces_of line_of words_line first_word_line retire_line retire_with
retire_one = refl

-- a step of a name that isn't given yet
step_of_a_stranger : line_of begun (codes "blue exit 1") ≡ Err causes.UnknownNamespace
unfolding pieces_of line_of words_line first_word_line step_line
step_of_a_stranger = refl

-- no space line behind either
late_after_admit : line_of (admitted begun (codes "blue") (usual 1)) (codes "space grey 1") ≡ Err causes.LateSpace
unfolding pieces_of line_of words_line first_word_line space_line
late_after_admit = refl

late_after_retire : line_of (record begun { steps = (0, lines.Retire) ∷ [] }) (codes "space grey 1") ≡ Err causes.LateSpace
unfolding pieces_of line_of words_line first_word_line space_line
late_after_retire = refl

-- namespaces that come and go: reading on behind an admit line
abbrev pub admits : Draft → ℕ → List ℕ → ℕ → List ℕ → Bool → Result Draft Refusal
admits d k name n rest p =
    numbered k (limited n p >>= (λ limits. Ok (admitted d name limits))) (λ e. lines_from e (k + 1) (pieces_of 10 rest))

abbrev pub spawn : Line
spawn = lines.Step (Spawn 5 5 18 [])

-- the first lines, up to where blue comes, up to where green comes, and up to where grey comes
abbrev pub with_red : Draft
with_red = record begun { steps = (0, spawn) ∷ [] }

abbrev pub with_blue : Draft
with_blue = admitted with_red (codes "blue") (usual 2)

abbrev pub with_green : Draft
with_green = admitted with_blue (codes "green") (usual 1)

abbrev pub without_red : Draft
without_red = record with_green { steps = with_green.steps ++ (0, lines.Step (Exit 1)) ∷ (0, lines.Retire) ∷ [] }

abbrev pub guests_draft : Draft
guests_draft = record {
  frames = 17;
  opening = 1;
  spaces = (codes "red", usual 16) ∷ (codes "blue", usual 2) ∷ (codes "green", usual 1) ∷ (codes "grey", usual 16) ∷ [];
  steps = (0, spawn) ∷ (1, lines.Admit) ∷ (2, lines.Admit) ∷ (0, lines.Step (Exit 1)) ∷ (0, lines.Retire) ∷ (3, lines.Admit) ∷ (2, spawn) ∷ (2, lines.Retire) ∷ (1, spawn) ∷ (0, spawn) ∷ [];
}

pub guests : read_script (codes "pool 17\nspace red 16\nred spawn 5 5 022\nadmit blue 2\nadmit green 1\nred exit 1\nretire red\nadmit grey 16\ngreen spawn 5 5 022\nretire green\nblue spawn 5 5 022\nred spawn 5 5 022\n") ≡ Ok guests_draft
unfolding pieces_of lines_from rest_of line_of words_line first_word_line pool_line pool_with space_line space_words space_with fresh_limits limits_with with_limits digits_from step_line admit_line admit_with retire_line retire_with step_words call_of crossing_call process_call spawn_of spawn_with pid_of
guests =
    ap (goes_on 17 (codes "red") 16 (codes "red spawn 5 5 022\nadmit blue 2\nadmit green 1\nred exit 1\nretire red\nadmit grey 16\ngreen spawn 5 5 022\nretire green\nblue spawn 5 5 022\nred spawn 5 5 022\n")) power
    ∙ (ap (admits with_red 4 (codes "blue") 2 (codes "admit green 1\nred exit 1\nretire red\nadmit grey 16\ngreen spawn 5 5 022\nretire green\nblue spawn 5 5 022\nred spawn 5 5 022\n")) power
    ∙ (ap (admits with_blue 5 (codes "green") 1 (codes "red exit 1\nretire red\nadmit grey 16\ngreen spawn 5 5 022\nretire green\nblue spawn 5 5 022\nred spawn 5 5 022\n")) power
    ∙ ap (admits without_red 8 (codes "grey") 16 (codes "green spawn 5 5 022\nretire green\nblue spawn 5 5 022\nred spawn 5 5 022\n")) power))
