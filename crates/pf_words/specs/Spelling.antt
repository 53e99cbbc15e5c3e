-- The words of each step: one way to write it in a script, of which the grammar says that it reads as that step.

use Rattle.std.specs.Prelude.{ℕ, ◌+◌, ◌/◌, ◌%◌, ◌^◌, ◌≡◌, ◌<◌, ◌==◌, ◌&&◌, nat_le, not, Bool, true, false, List, []}
use Rattle.std.specs.Prelude.{◌∷◌, ◌++◌, length, map, codes, decimal, Ok, if◌then◌else◌}
use Rattle.std.specs.List.{list_all, AllByRecursion}
use Rattle.hex.specs.Hex.{IsBytes, encode_lower}
use Rattle.pf_base.specs.declared.step.Step.{Step}
use Rattle.pf_base.specs.declared.open_flags.OpenFlags.{OpenFlags}
use Rattle.pf_words.specs.Verbs.{Field, Small, Large, Mode, Path, Bytes, Groups, Switch, Flag, Flags, text_of}
use Rattle.pf_words.specs.Verbs.{step_words}

-- texts with this byte between them
unfoldable pub joined : ℕ → List (List ℕ) → List ℕ
joined between [] = []
joined between (text ∷ []) = text
joined between (text ∷ next ∷ texts) = text ++ between ∷ joined between (next ∷ texts)

-- Single words

-- a mode or a umask in four octal digits
abbrev pub octal_word : ℕ → List ℕ
octal_word m = (48 + m / 512) ∷ (48 + m / 64 % 8) ∷ (48 + m / 8 % 8) ∷ (48 + m % 8) ∷ []

-- group ids with commas between them, no word for none
abbrev pub groups_words : List ℕ → List (List ℕ)
groups_words [] = []
groups_words (group ∷ groups) = joined 44 (map (λ n. decimal n) (group ∷ groups)) ∷ []

-- the last word `n`, or none
abbrev pub flag_words : Bool → List (List ℕ)
flag_words true = codes "n" ∷ []
flag_words false = []

abbrev pub switch_word : Bool → List ℕ
switch_word true = codes "on"
switch_word false = codes "off"

-- `r` for reading, `w` for writing, `n` for O_NONBLOCK
abbrev pub flags_word : OpenFlags → List ℕ
flags_word flags =
    (if flags.0 % 2 == 1 then codes "r" else [])
    ++ (if flags.0 / 2 % 2 == 1 then codes "w" else [])
    ++ (if nat_le 4 flags.0 then codes "n" else [])

-- two hexadecimal digits for each byte, and `-` for no byte
abbrev pub bytes_word : List ℕ → List ℕ
bytes_word [] = codes "-"
bytes_word (b ∷ bs) = encode_lower (b ∷ bs)

-- What has words

-- a byte of a word: neither a space nor a line feed
abbrev pub is_inner : ℕ → Bool
is_inner c = not (c == 32) && not (c == 10)

-- a word of a line: not empty, with neither in it
pub record IsWord (word : List ℕ) : Type 0 where
  pub some : 0 < length word
  pub inner : list_all is_inner word ≡ true

-- a number of 32 bits
abbrev pub Is32 : ℕ → Type 0
Is32 n = n < 2 ^ 32

-- a number of 64 bits
abbrev pub Is64 : ℕ → Type 0
Is64 n = n < 2 ^ 64

-- a mode or a umask up to 07777
abbrev pub IsMode : ℕ → Type 0
IsMode m = m < 4096

-- for reading, writing or both, and no bit that means nothing
abbrev pub IsAccess : OpenFlags → Type 0
IsAccess flags = (flags.0 < 8) × (0 < flags.0 % 4)

-- Steps

-- the words of a field
abbrev pub words_of : Field → List (List ℕ)
words_of (Small n) = decimal n ∷ []
words_of (Large n) = decimal n ∷ []
words_of (Mode m) = octal_word m ∷ []
words_of (Path path) = path ∷ []
words_of (Bytes bytes) = bytes_word bytes ∷ []
words_of (Groups groups) = groups_words groups
words_of (Switch on) = switch_word on ∷ []
words_of (Flag on) = flag_words on
words_of (Flags flags) = flags_word flags ∷ []

-- it is in the range of the grammar's words
abbrev pub InRange : Field → Type 0
InRange (Small n) = Is32 n
InRange (Large n) = Is64 n
InRange (Mode m) = IsMode m
InRange (Path path) = IsWord path
InRange (Bytes bytes) = IsBytes bytes
InRange (Groups groups) = AllByRecursion Is32 groups
InRange (Switch on) = Unit
InRange (Flag on) = Unit
InRange (Flags flags) = IsAccess flags

abbrev pub all_words : List Field → List (List ℕ)
all_words [] = []
all_words (field ∷ fields) = words_of field ++ all_words fields

-- the words of a step
unfoldable pub spell : Step → List (List ℕ)
spell step = (text_of step).0 ∷ all_words (text_of step).1

-- the fields are in the ranges of the grammar's words
unfoldable pub HasWords : Step → Type 0
HasWords step = AllByRecursion InRange (text_of step).1

-- each step whose fields are in the grammar's ranges has words, which are words of a line and are read as that step
abbrev pub EachStepIsRead : Type 0
EachStepIsRead =
    (step : Step) → HasWords step → AllByRecursion IsWord (spell step) × (step_words (spell step) ≡ Ok step)
