-- What a read from C into the host's buffer does, and what C is told. It wants no memory.

use Rattle.std.specs.Prelude.{◌≡◌, ℕ, ℤ, true, List, [], length, take, min, Option, Some, None, Result, Ok, Err}
use Rattle.std.specs.Option.{option_map}
use Rattle.pf_base.specs.declared.errno.Errno.{Errno}
use Rattle.pf_base.specs.declared.step.Answer.{Answer}
use Rattle.pf_base.specs.declared.step.Answer.TheVariants.{Done}
use Rattle.pf_base.specs.declared.step.Reply.{Reply}
use Rattle.pf_base.specs.declared.step.Step.{Step}
use Rattle.pf_frame.specs.Bytes.{filled}
use Rattle.pf_ring.specs.Laid.{laid}
use Rattle.pf_tables.specs.Buffers.{answer_in, number_in, number_told, bytes_told}
use Rattle.pf_c.specs.Codes.{number, parked, no_namespace, refused, code_of_answer}
use Rattle.pf_c.specs.Rows.{Held}
use Rattle.pf_c.specs.Told.{IsAnswered, bytes_of}

-- the code of a read that is told a number of bytes, that it waits, or an error, if there is such a namespace
abbrev pub code_of_read : Option (Result (Option ℕ) Errno) → ℤ
code_of_read (Some (Ok (Some n))) = number n
code_of_read (Some (Ok None)) = parked
code_of_read (Some (Err e)) = refused e
code_of_read None = no_namespace

-- its answer, with the bytes that lie in the buffer
abbrev pub answer_of_read : List ℕ → Option (Result (Option ℕ) Errno) → Option Answer
answer_of_read after None = None
answer_of_read after (Some read) = Some (answer_in after read)

-- and how many those are
abbrev pub number_of_read : Option (Result (Option ℕ) Errno) → ℕ
number_of_read None = 0
number_of_read (Some read) = number_in read

-- as `Filled`, of a call that never wants memory: there is a reply, or no such namespace
pub record Laid (old new : Option Held) (n : ℕ) (step : Step) (code : ℤ) (before after : List ℕ) : Type 0 where
  pub reply : Option Reply
  pub answered : IsAnswered old new n step true (option_map Done reply)
  pub says : code ≡ code_of_answer (option_map Done reply)
  pub bytes : let bytes = bytes_of (option_map Done reply) in
      after ≡ filled 0 (take (min (length bytes) (length before)) bytes) before

-- A call that is tried again. It may be a read, which asked for more bytes than the buffer has room for now

-- the bytes of its reply, if there is such a namespace
abbrev pub bytes_handed : Option Reply → List ℕ
bytes_handed None = []
bytes_handed (Some reply) = bytes_told reply

-- there is a reply, or no such namespace, of which this is true. It is told so, and the first of its bytes lie at the
-- front of the buffer
pub record Handed (Is : Option Reply → Type 0) (told : Option (Result (Option ℕ) Errno))
    (before after : List ℕ) : Type 0 where
  pub reply : Option Reply
  pub is : Is reply
  pub told_is : told ≡ option_map number_told reply
  pub bytes_lie : after ≡ laid (bytes_handed reply) before
