-- What a call that may want memory tells: the answer that the definitions give, or that there was no memory.

use Rattle.std.specs.Prelude.{◌≡◌, Result, Ok, Err}
use Rattle.pf_machine.specs.FileMap.{Files}
use Rattle.pf_base.specs.declared.errno.Errno.{Errno}
use Rattle.pf_base.specs.declared.fault.Fault.{Fault}
use Rattle.pf_base.specs.declared.fault.Fault.TheVariants.{Errno as Refused, NoMemory}

-- the value that is meant, or the same refusal, or no memory
abbrev pub Told : {A B : Type 0} → (A → B) → Result A Fault → Result B Errno → Type 0
Told meaning (Ok x) answer = answer ≡ Ok (meaning x)
Told meaning (Err (Refused e)) answer = answer ≡ Err e
Told meaning (Err NoMemory) answer = Unit {0}

-- a change of the files: what they become; or a refusal, or no memory, that leaves them as they were
abbrev pub Changed : Result (Unit {0}) Fault → Files → Files → Result Files Errno → Type 0
Changed (Ok x) old new answer = answer ≡ Ok new
Changed (Err (Refused e)) old new answer = (answer ≡ Err e) × (new ≡ old)
Changed (Err NoMemory) old new answer = new ≡ old
