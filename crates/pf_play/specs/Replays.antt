-- What a run of a whole script promises of the bytes that were read and written.

use Rattle.std.specs.Prelude.{ℕ, ◌≡◌, ◌⊎◌, Bool, true, false, List, Option, Some, None, Result, Ok, Err}
use Rattle.pf_script.specs.declared.refusal.Refusal.{Refusal}
use Rattle.pf_base.specs.declared.admission.EventAnswer.{EventAnswer}
use Rattle.pf_script.specs.Script.{Draft, place_of, read_script}
use Rattle.pf_script.specs.Text.{text}
use Rattle.pf_play.specs.Played.{comes_and_goes}
use Rattle.pf_play.specs.Plays.{IsPlayedFor, nomem_of}
use Rattle.pf_script.specs.Ports.{Input, Output, IsWhole, BreaksOff, IsTooLong, IsGivenUp, IsWritten, IsCut}
use Rattle.pf_script.specs.declared.fault.ScriptFault.{ScriptFault}
use Rattle.pf_script.specs.declared.fault.ScriptFault.TheVariants as script_faults
use Rattle.pf_play.specs.declared.run.ReplayFault.{ReplayFault}
use Rattle.pf_play.specs.declared.run.ReplayFault.TheVariants as faults

-- the script is accepted, and this holds of what it says
abbrev pub IfAccepted : Result Draft Refusal → (Draft → Type 0) → Type 0
IfAccepted (Ok script) P = P script
IfAccepted (Err refusal) P = ⊥

-- the whole input was read before it was judged, it is accepted, and this holds of what it says
abbrev pub IsJudged : Input → Input → (Draft → Type 0) → Type 0
IsJudged input rest P = (bytes : List ℕ) × IsWhole input rest bytes × IfAccepted (read_script bytes) P

-- the number of the namespace with this name is this one, or no name is chosen
abbrev pub Names : Draft → Option (List ℕ) → Option ℕ → Type 0
Names script None only = only ≡ None
Names script (Some name) None = ⊥
Names script (Some name) (Some n) = place_of name script.spaces ≡ Some n

-- no namespace has the name that is chosen
abbrev pub NamesNone : Draft → Option (List ℕ) → Type 0
NamesNone script None = ⊥
NamesNone script (Some name) = place_of name script.spaces ≡ None

-- threads aren't asked for, or no namespace comes or goes
abbrev pub Suits : Bool → Draft → Type 0
Suits threads script = threads ≡ true → comes_and_goes script ≡ false

-- the whole input is accepted, and suits threads where they are asked for; its lines, or those of the name that is
-- chosen, have answers, of which this many met want of memory; and exactly their text was written
abbrev pub IsReplayed : Bool → Input → Input → Output → Output → Option (List ℕ) → ℕ → Type 0
IsReplayed threads input rest old new name nomem =
    IsJudged input rest (λ script. Suits threads script × (only : Option ℕ) × (answers : List EventAnswer) × Names script name only × IsPlayedFor script only answers
    × IsWritten old new (text script answers only) × (nomem ≡ nomem_of answers))

-- each fault has its cause, and only at a write fault was the writer asked for anything: it took a front of such a text
abbrev pub IsFault : Bool → Input → Input → Output → Output → Option (List ℕ) → ReplayFault → Type 0
IsFault threads input rest old new name (faults.Script refusal) = ((bytes : List ℕ) × IsWhole input rest bytes × (read_script bytes ≡ Err refusal)) × (new ≡ old)
IsFault threads input rest old new name faults.NoMemory = IsGivenUp input rest × (new ≡ old)
IsFault threads input rest old new name faults.ReadFault = (BreaksOff input rest ⊎ IsTooLong input rest) × (new ≡ old)
IsFault threads input rest old new name faults.NoSuchName =
    IsJudged input rest (λ script. Suits threads script × NamesNone script name) × (new ≡ old)
IsFault threads input rest old new name faults.NeedsOneThread =
    IsJudged input rest (λ script. (threads ≡ true) × (comes_and_goes script ≡ true)) × (new ≡ old)
IsFault threads input rest old new name faults.WriteFault =
    IsJudged input rest (λ script. Suits threads script × (only : Option ℕ) × (answers : List EventAnswer) × Names script name only × IsPlayedFor script only answers × IsCut old new (text script answers only))

-- a script's fault as a fault of the run
abbrev pub of_script : ScriptFault → ReplayFault
of_script script_faults.NoMemory = faults.NoMemory
of_script script_faults.ReadFault = faults.ReadFault
of_script (script_faults.Refused refusal) = faults.Script refusal
