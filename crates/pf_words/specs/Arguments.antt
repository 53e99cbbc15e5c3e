-- The words behind a verb, read by their shape. How many there are comes first; then each is judged, from the left.

use Rattle.std.specs.Prelude.{ℕ, Bool, true, false, List, [], ◌∷◌, codes, bytes_eq, Option, Some, None, Result, Ok, Err, if◌then◌else◌}
use Rattle.pf_words.specs.declared.cause.Cause.{Cause}
use Rattle.pf_words.specs.declared.cause.Cause.TheVariants as causes
use Rattle.pf_words.specs.declared.arguments.Descriptor.{Descriptor}
use Rattle.pf_words.specs.declared.arguments.Sized.{Sized}
use Rattle.pf_words.specs.declared.arguments.Crossing.{Crossing}
use Rattle.pf_words.specs.declared.arguments.Named.{Named}
use Rattle.pf_words.specs.declared.arguments.Moded.{Moded}
use Rattle.pf_words.specs.Words.{number, octal, numbers_of, bytes_of}
use Rattle.pf_base.specs.declared.open_flags.OpenFlags.{OpenFlags}

-- the second step, if the first gave a value
infixl 10 ◌>>=◌
abbrev pub ◌>>=◌ : {A B : Type 0} → Result A Cause → (A → Result B Cause) → Result B Cause
(Ok x) >>= f = f x
(Err e) >>= f = Err e

abbrev pub or_cause : {A : Type 0} → Option A → Cause → Result A Cause
or_cause (Some x) cause = Ok x
or_cause None cause = Err cause

-- Single words

-- a decimal number up to this one
abbrev pub number_at : ℕ → List ℕ → Result ℕ Cause
number_at most word = or_cause (number most word) causes.BadNumber

-- a number of 32 bits
abbrev pub u32_at : List ℕ → Result ℕ Cause
u32_at word = number_at 4294967295 word

-- a number of 64 bits
abbrev pub u64_at : List ℕ → Result ℕ Cause
u64_at word = number_at 18446744073709551615 word

-- a mode or a umask
abbrev pub octal_at : List ℕ → Result ℕ Cause
octal_at word = or_cause (octal word) causes.BadNumber

-- supplementary group ids, none where the word is left out
abbrev pub groups_at : Option (List ℕ) → Result (List ℕ) Cause
groups_at None = Ok []
groups_at (Some word) = or_cause (numbers_of word) causes.BadNumber

-- whether the last word, `n`, is there
abbrev pub flag_at : Option (List ℕ) → Result Bool Cause
flag_at None = Ok false
flag_at (Some word) = if bytes_eq word (codes "n") then Ok true else Err causes.BadFlags

-- `on` or `off`
abbrev pub switch_at : List ℕ → Result Bool Cause
switch_at word =
    if bytes_eq word (codes "on") then Ok true
    else if bytes_eq word (codes "off") then Ok false
    else Err causes.BadFlags

-- the flags of these bits: 1 for reading, 2 for writing, 4 for O_NONBLOCK
abbrev pub flags_with : ℕ → OpenFlags
flags_with bits = record { 0 = bits }

-- how a FIFO is opened: `r` for reading, `w` for writing, `rw` for both, and `n` behind these for O_NONBLOCK
abbrev pub flags_at : List ℕ → Result OpenFlags Cause
flags_at word =
    if bytes_eq word (codes "r") then Ok (flags_with 1)
    else if bytes_eq word (codes "w") then Ok (flags_with 2)
    else if bytes_eq word (codes "rw") then Ok (flags_with 3)
    else if bytes_eq word (codes "rn") then Ok (flags_with 5)
    else if bytes_eq word (codes "wn") then Ok (flags_with 6)
    else if bytes_eq word (codes "rwn") then Ok (flags_with 7)
    else Err causes.BadFlags

abbrev pub bytes_at : List ℕ → Result (List ℕ) Cause
bytes_at word = or_cause (bytes_of word) causes.BadData

-- Shapes

-- PID
unfoldable pub pid_of : List (List ℕ) → Result ℕ Cause
pid_of (pid ∷ []) = u32_at pid
pid_of _ = Err causes.WrongWords

unfoldable pub descriptor_with : List ℕ → List ℕ → Result Descriptor Cause
descriptor_with pid fd = do
  p ← u32_at pid
  d ← u32_at fd
  Ok (record { pid = p; fd = d })

-- PID FD
unfoldable pub descriptor_of : List (List ℕ) → Result Descriptor Cause
descriptor_of (pid ∷ fd ∷ []) = descriptor_with pid fd
descriptor_of _ = Err causes.WrongWords

unfoldable pub sized_with : List ℕ → List ℕ → List ℕ → Result Sized Cause
sized_with pid fd len = do
  p ← u32_at pid
  d ← u32_at fd
  n ← u64_at len
  Ok (record { pid = p; fd = d; n = n })

-- PID FD LEN
unfoldable pub sized_of : List (List ℕ) → Result Sized Cause
sized_of (pid ∷ fd ∷ len ∷ []) = sized_with pid fd len
sized_of _ = Err causes.WrongWords

unfoldable pub crossing_with : List ℕ → List ℕ → List ℕ → List ℕ → Option (List ℕ) → Result Crossing Cause
crossing_with pid source sink len flag = do
  p ← u32_at pid
  i ← u32_at source
  o ← u32_at sink
  n ← u64_at len
  b ← flag_at flag
  Ok (record { pid = p; source = i; sink = o; n = n; nonblock = b })

-- PID IN OUT LEN [n]
unfoldable pub crossing_of : List (List ℕ) → Result Crossing Cause
crossing_of (pid ∷ source ∷ sink ∷ len ∷ []) = crossing_with pid source sink len None
crossing_of (pid ∷ source ∷ sink ∷ len ∷ flag ∷ []) = crossing_with pid source sink len (Some flag)
crossing_of _ = Err causes.WrongWords

unfoldable pub named_with : List ℕ → List ℕ → Result Named Cause
named_with pid path = do
  p ← u32_at pid
  Ok (record { pid = p; path = path })

-- PID PATH
unfoldable pub named_of : List (List ℕ) → Result Named Cause
named_of (pid ∷ path ∷ []) = named_with pid path
named_of _ = Err causes.WrongWords

unfoldable pub moded_with : List ℕ → List ℕ → List ℕ → Result Moded Cause
moded_with pid path mode = do
  p ← u32_at pid
  m ← octal_at mode
  Ok (record { pid = p; path = path; mode = m })

-- PID PATH MODE
unfoldable pub moded_of : List (List ℕ) → Result Moded Cause
moded_of (pid ∷ path ∷ mode ∷ []) = moded_with pid path mode
moded_of _ = Err causes.WrongWords
