-- What an answer of the reader says of what the grammar gives for a whole script.

use Rattle.std.specs.Prelude.{ℕ, ◌≡◌, ◌⊎◌, List, Result, Ok, Err}
use Rattle.pf_script.specs.declared.refusal.Refusal.{Refusal}
use Rattle.pf_script.specs.Ports.{Input, IsWhole, BreaksOff, IsTooLong, IsGivenUp}
use Rattle.pf_script.specs.Script.{Draft, read_script}
use Rattle.pf_words.specs.declared.fault.LineFault.{LineFault}
use Rattle.pf_words.specs.declared.fault.LineFault.TheVariants as faults
use Rattle.pf_script.specs.declared.fault.ScriptFault.{ScriptFault}
use Rattle.pf_script.specs.declared.fault.ScriptFault.TheVariants as script_faults

-- a line's fault with the line's number
abbrev pub at_line : ℕ → LineFault → ScriptFault
at_line k faults.NoMemory = script_faults.NoMemory
at_line k (faults.Refused cause) = script_faults.Refused (record { line = k; cause = cause })

-- the same for a whole script
abbrev pub Reads : Result Draft ScriptFault → Result Draft Refusal → Type 0
Reads (Ok script) read = read ≡ Ok script
Reads (Err script_faults.NoMemory) read = Unit {0}
Reads (Err (script_faults.Refused refusal)) read = read ≡ Err refusal
Reads (Err script_faults.ReadFault) read = ⊥

-- the whole input was read before it was judged, and this is what it says
abbrev pub IsRead : Input → Input → Draft → Type 0
IsRead old new script = (bytes : List ℕ) × IsWhole old new bytes × (read_script bytes ≡ Ok script)

-- each fault has its cause
abbrev pub IsScriptFault : Input → Input → ScriptFault → Type 0
IsScriptFault old new (script_faults.Refused refusal) = (bytes : List ℕ) × IsWhole old new bytes × (read_script bytes ≡ Err refusal)
IsScriptFault old new script_faults.NoMemory = IsGivenUp old new
IsScriptFault old new script_faults.ReadFault = BreaksOff old new ⊎ IsTooLong old new
