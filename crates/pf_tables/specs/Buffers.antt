-- A read whose bytes lie in a buffer that its caller has: what it came to, and what stands in the buffer then.

use Rattle.std.specs.Prelude.{◌≡◌, ℕ, ◌≤◌, List, [], length, take, drop, Option, Some, None, Result, Ok, Err}
use Rattle.pf_machine.specs.Calls.{Transfer, Reading}
use Rattle.pf_machine.specs.Progress.{moved}
use Rattle.pf_machine.specs.Transfers.{Tried}
use Rattle.pf_base.specs.declared.errno.Errno.{Errno}
use Rattle.pf_base.specs.declared.fault.Fault.{Fault}
use Rattle.pf_base.specs.declared.fault.Fault.TheVariants as faults
use Rattle.pf_base.specs.declared.progress.Progress.{Progress}
use Rattle.pf_base.specs.declared.step.Answer.{Answer}
use Rattle.pf_base.specs.declared.step.Answer.TheVariants.{Done}
use Rattle.pf_base.specs.declared.step.Reply.{Reply}
use Rattle.pf_base.specs.declared.step.Reply.TheVariants as replies
use Rattle.pf_frame.specs.Live.{Live}
use Rattle.pf_ring.specs.Laid.{laid}
use Rattle.pf_tables.specs.Meaning.{Namespace}
use Rattle.pf_tables.specs.Told.{Came, Refused}

-- so many bytes lie at the front of a buffer, and what is behind them is as it was
pub record Lies (number : ℕ) (before after : List ℕ) : Type 0 where
  pub fits : number ≤ length before
  pub as_long : length after ≡ length before
  pub behind : drop number after ≡ drop number before

-- a read into a buffer came as far as the machine's, and the bytes at the front are the machine's; or its refusal is,
-- and the buffer is as it was. The door goes from d to e
abbrev pub HasReadInto : {D : Type 0} → (D → Live) → D → D → Namespace → Namespace → ℕ → ℕ → List ℕ → List ℕ
    → Result Progress Errno → Type 0
HasReadInto live d e old new pid fd before after (Ok progress) =
    Came live d e old new pid (Reading fd (length before)) progress (λ r. r.bytes ≡ take (moved progress) after)
    × Lies (moved progress) before after
HasReadInto live d e old new pid fd before after (Err err) =
    Refused live d e old new pid (Reading fd (length before)) err × (after ≡ before)

-- A read is told a number of bytes, which lie at the front of its buffer; or nothing, where it waits; or an error

-- the machine's reply that it stands for
abbrev pub reply_in : List ℕ → Result (Option ℕ) Errno → Reply
reply_in after (Ok (Some number)) = replies.Bytes (take number after)
reply_in after (Ok None) = replies.Parked
reply_in after (Err e) = replies.Err e

-- and the answer: no memory is wanted
abbrev pub answer_in : List ℕ → Result (Option ℕ) Errno → Answer
answer_in after result = Done (reply_in after result)

-- the same before a refusal is a reply
abbrev pub told_in : List ℕ → Result (Option ℕ) Errno → Result Reply Fault
told_in after (Ok (Some number)) = Ok (replies.Bytes (take number after))
told_in after (Ok None) = Ok replies.Parked
told_in after (Err e) = Err (faults.Errno e)

-- how many bytes it is told
abbrev pub number_in : Result (Option ℕ) Errno → ℕ
number_in (Ok (Some number)) = number
number_in (Ok None) = 0
number_in (Err e) = 0

-- A call that is tried again. It may be a read, which asked for more bytes than the buffer has room for now

-- a read took as many bytes as it says, and the first of them lie at the front of a buffer
abbrev pub Truncates : Progress → List ℕ → List ℕ → Tried → Type 0
Truncates progress before after r = (length r.bytes ≡ moved progress) × (after ≡ laid r.bytes before)

-- it came as far as the machine's; or its refusal is, and the buffer is as it was
abbrev pub HasReadTruncated : {D : Type 0} → (D → Live) → D → D → Namespace → Namespace → ℕ → Transfer → List ℕ
    → List ℕ → Result Progress Errno → Type 0
HasReadTruncated live d e old new pid call before after (Ok progress) =
    Came live d e old new pid call progress (Truncates progress before after)
HasReadTruncated live d e old new pid call before after (Err err) =
    Refused live d e old new pid call err × (after ≡ before)

-- as what a reply to such a call is told: a number, where it has bytes how many; an error; or nothing, where it waits
-- on. It is told no other reply
abbrev pub number_told : Reply → Result (Option ℕ) Errno
number_told (replies.Num n) = Ok (Some n)
number_told (replies.Bytes bytes) = Ok (Some (length bytes))
number_told (replies.Err e) = Err e
number_told _ = Ok None

-- the bytes that such a reply hands out
abbrev pub bytes_told : Reply → List ℕ
bytes_told (replies.Bytes bytes) = bytes
bytes_told _ = []

-- there is a reply of which this is true. It is told so, and the first of its bytes lie at the front of a buffer
pub record Replied (Is : Reply → Type 0) (told : Result (Option ℕ) Errno) (before after : List ℕ) : Type 0 where
  pub reply : Reply
  pub is : Is reply
  pub told_is : told ≡ number_told reply
  pub bytes_lie : after ≡ laid (bytes_told reply) before
