-- Refusals: a call goes on, or is refused with the first error that it meets.

use Rattle.std.specs.Prelude.{Bool, true, false, Option, Some, None, Result, Ok, Err}
use Rattle.pf_base.specs.declared.errno.Errno.{Errno}

infixl 10 ◌>>=◌
infixl 10 ◌>>◌
-- the second part, if the first gave a value
abbrev pub ◌>>=◌ : {A B : Type 0} → Result A Errno → (A → Result B Errno) → Result B Errno
(Ok x) >>= f = f x
(Err e) >>= f = Err e

-- the second part, if the first is not refused
abbrev pub ◌>>◌ : {B : Type 0} → Result (Unit {0}) Errno → Result B Errno → Result B Errno
(Ok x) >> r = r
(Err e) >> r = Err e

abbrev pub refuse_if : Bool → Errno → Result (Unit {0}) Errno
refuse_if true e = Err e
refuse_if false e = Ok tt

-- what there is, or a refusal where there is nothing
abbrev pub or_refuse : {A : Type 0} → Errno → Option A → Result A Errno
or_refuse e (Some x) = Ok x
or_refuse e None = Err e
