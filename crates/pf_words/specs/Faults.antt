-- What an answer of the reader says of what the grammar gives.

use Rattle.std.specs.Prelude.{◌≡◌, Result, Ok, Err}
use Rattle.pf_words.specs.declared.cause.Cause.{Cause}
use Rattle.pf_words.specs.declared.fault.LineFault.{LineFault}
use Rattle.pf_words.specs.declared.fault.LineFault.TheVariants as faults

-- the grammar gives this fault, unless memory ran out
abbrev pub Fails : {Y : Type 0} → LineFault → Result Y Cause → Type 0
Fails faults.NoMemory read = Unit {0}
Fails (faults.Refused cause) read = read ≡ Err cause

-- the grammar gives the same, unless memory ran out
abbrev pub Gives : {X : Type 0} → Result X LineFault → Result X Cause → Type 0
Gives (Ok x) read = read ≡ Ok x
Gives (Err e) read = Fails e read

-- the same where the answer is what a value became
abbrev pub Moves : {R Y : Type 0} → Result R LineFault → Y → Result Y Cause → Type 0
Moves (Ok _) new read = read ≡ Ok new
Moves (Err e) new read = Fails e read
