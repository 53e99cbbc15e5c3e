-- The numbers that C is told: 0 or more as the system call tells, an error's number with its sign turned (errno(3) of
-- Linux), or one of three codes that are no error's.

use Rattle.std.specs.Prelude.{ℕ, ℤ, pos, negsuc, neg_ℤ, nat_lt, if◌then◌else◌, length, Option, Some, None}
use Rattle.pf_base.specs.Errors.{code_of}
use Rattle.pf_base.specs.declared.errno.Errno.{Errno}
use Rattle.pf_base.specs.declared.step.Reply.{Reply}
use Rattle.pf_base.specs.declared.step.Reply.TheVariants.{Num, Pid, Fds, Bytes, Names, Meta, Parked, Err}
use Rattle.pf_base.specs.declared.step.Answer.{Answer}
use Rattle.pf_base.specs.declared.step.Answer.TheVariants.{Done, NoMemory}

-- the call waits
abbrev pub parked : ℤ
parked = negsuc 999

-- memory of the heap was wanted, and nothing has changed
abbrev pub no_memory : ℤ
no_memory = negsuc 1000

-- there is no such namespace
abbrev pub no_namespace : ℤ
no_namespace = negsuc 1001

-- the largest number of C's int64_t
abbrev pub most : ℕ
most = 9223372036854775807

-- a number, as far as C's type goes
abbrev pub number : ℕ → ℤ
number n = if nat_lt most n then pos most else pos n

abbrev pub refused : Errno → ℤ
refused e = neg_ℤ (pos (code_of e))

abbrev pub code_of_reply : Reply → ℤ
code_of_reply (Num n) = number n
code_of_reply (Pid pid) = pos pid
code_of_reply (Fds reading writing) = pos 0
code_of_reply (Bytes bytes) = number (length bytes)
code_of_reply (Names names) = number (length names)
code_of_reply (Meta meta) = pos 0
code_of_reply Parked = parked
code_of_reply (Err e) = refused e

-- with no answer there is no such namespace
abbrev pub code_of_answer : Option Answer → ℤ
code_of_answer None = no_namespace
code_of_answer (Some NoMemory) = no_memory
code_of_answer (Some (Done reply)) = code_of_reply reply
