-- What contracts know of a reader and of a writer, and what their calls do to it.

use Rattle.std.specs.Prelude.{ℕ, ◌≡◌, ◌≤◌, ◌<◌, ◌+◌, ◌-◌, ◌^◌, ◌⊎◌, min, List, ◌++◌, length, Option, Result, Ok, Err}
use Rattle.std.specs.Io.KnownBytes.{Appends, Consumes, IsAtEnd}

-- a reader: the bytes that reads will give from here on, where they are known, and how many reads failed
pub record Input : Type 0 where
  pub remaining : Option (List ℕ)
  pub failures : ℕ

-- a writer: the bytes that it holds, where they are known, and how many writes failed, or took none of some bytes
pub record Output : Type 0 where
  pub contents : Option (List ℕ)
  pub refusals : ℕ

-- a count, which stops at 2^64 - 1
abbrev pub one_more : ℕ → ℕ
one_more n = min (n + 1) (2 ^ 64 - 1)

-- each read that fails counts, and no other
abbrev pub CountsRead : {E : Type 0} → ℕ → ℕ → Result ℕ E → Type 0
CountsRead old new (Ok n) = new ≡ old
CountsRead old new (Err e) = new ≡ one_more old

-- each write of these bytes counts that fails, or takes none though there are some, and no other
abbrev pub CountsWrite : {E : Type 0} → ℕ → ℕ → Result ℕ E → List ℕ → Type 0
CountsWrite old new (Ok n) bytes = (n ≡ 0 → 0 < length bytes → new ≡ one_more old) × ((0 < n) ⊎ (length bytes ≡ 0) → new ≡ old)
CountsWrite old new (Err e) bytes = new ≡ one_more old

-- the most bytes that an input may have
abbrev pub input_limit : ℕ
input_limit = 67108864

-- these bytes are all that the reader had, they are no more than an input may have, and no read failed
abbrev pub IsWhole : Input → Input → List ℕ → Type 0
IsWhole old new bytes =
    Consumes old.remaining new.remaining bytes × IsAtEnd new.remaining × (length bytes ≤ input_limit) × (new.failures ≡ old.failures)

-- a read failed, and it was the first that did
abbrev pub BreaksOff : Input → Input → Type 0
BreaksOff old new = (bytes : List ℕ) × Consumes old.remaining new.remaining bytes × (length bytes ≤ input_limit) × (new.failures ≡ one_more old.failures)

-- no read failed, and one byte more was given than an input may have
abbrev pub IsTooLong : Input → Input → Type 0
IsTooLong old new = (bytes : List ℕ) × Consumes old.remaining new.remaining bytes × (length bytes ≡ input_limit + 1) × (new.failures ≡ old.failures)

-- no read failed, and no more was asked for than an input may have and a byte
abbrev pub IsGivenUp : Input → Input → Type 0
IsGivenUp old new = (bytes : List ℕ) × Consumes old.remaining new.remaining bytes × (length bytes ≤ input_limit + 1) × (new.failures ≡ old.failures)

-- these bytes were written, and no write was refused
abbrev pub IsWritten : Output → Output → List ℕ → Type 0
IsWritten old new bytes = Appends old.contents new.contents bytes × (new.refusals ≡ old.refusals)

-- a front of these bytes was written and not all of them: a write was refused, and it was the first
abbrev pub IsCut : Output → Output → List ℕ → Type 0
IsCut old new bytes =
    (front : List ℕ) × (back : List ℕ) × Appends old.contents new.contents front × (front ++ back ≡ bytes) × (0 < length back) × (new.refusals ≡ one_more old.refusals)
