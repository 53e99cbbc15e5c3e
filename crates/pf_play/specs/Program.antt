-- What the program does on the words of its command line: what it prints, and what it ends with.

use Rattle.std.specs.Prelude.{ℕ, ◌≡◌, ◌≢◌, ◌⊎◌, ◌==◌, Bool, true, false, List, [], ◌++◌, codes, Option, Some, None, unwrap_or}
use Rattle.std.specs.Prelude.{Result, Ok, Err, if◌then◌else◌}
use Rattle.pf_script.specs.Ports.{Input, Output, IsWritten, IsCut}
use Rattle.pf_script.specs.Notices.{refusal_text}
use Rattle.pf_play.specs.declared.run.Replayed.{Replayed}
use Rattle.pf_play.specs.declared.run.ReplayFault.{ReplayFault}
use Rattle.pf_play.specs.declared.run.ReplayFault.TheVariants as faults
use Rattle.pf_play.specs.declared.program.Status.{Status}
use Rattle.pf_play.specs.declared.program.Status.TheVariants as statuses
use Rattle.pf_play.specs.Replays.{IsReplayed, IsFault}
use Rattle.pf_play.specs.CommandLine.{name_in, needs_one_thread, refusals, wants_threads}
use Rattle.pf_play.specs.Workers.{Passed, IsGated}

-- the number that the process ends with
abbrev pub code_of : Status → ℕ
code_of statuses.Done = 0
code_of statuses.Refused = 1
code_of statuses.Usage = 2
code_of statuses.NoMemory = 3
code_of statuses.Fault = 4

-- which status a run's end has: want of memory is one, whether a step met it or the run ended for it
abbrev pub status_of : Result Replayed ReplayFault → Status
status_of (Ok replayed) = if replayed.nomem == 0 then statuses.Done else statuses.NoMemory
status_of (Err (faults.Script refusal)) = statuses.Refused
status_of (Err faults.NoSuchName) = statuses.Usage
status_of (Err faults.NeedsOneThread) = statuses.Usage
status_of (Err faults.NoMemory) = statuses.NoMemory
status_of (Err faults.ReadFault) = statuses.Fault
status_of (Err faults.WriteFault) = statuses.Fault

-- what is told of it where this name is chosen: nothing beside the text, and nothing once a write was refused
abbrev pub words_of : Option (List ℕ) → Result Replayed ReplayFault → Option (List ℕ)
words_of name (Ok replayed) = None
words_of name (Err (faults.Script refusal)) = Some (refusal_text refusal)
words_of name (Err faults.NoSuchName) = Some (codes "no namespace " ++ unwrap_or name [])
words_of name (Err faults.NeedsOneThread) = Some (codes "admit and retire need one thread")
words_of name (Err faults.NoMemory) = Some (codes "no memory")
words_of name (Err faults.ReadFault) = Some (codes "read fault")
words_of name (Err faults.WriteFault) = None

-- this text was written, and the status is the one that goes with it; or a write of it was refused, and the status is
-- that of a fault
abbrev pub IsTold : Output → Output → List ℕ → Status → Status → Type 0
IsTold old new text wanted status =
    (IsWritten old new text × (status ≡ wanted)) ⊎ (IsCut old new text × (status ≡ statuses.Fault))

-- a text of usage, whatever it is
abbrev pub IsUsage : Output → Output → Status → Type 0
IsUsage old new status = (text : List ℕ) × IsTold old new text statuses.Usage status

-- a line, if there is one
abbrev pub IsToldLine : Output → Output → Option (List ℕ) → Status → Status → Type 0
IsToldLine old new None wanted status = (new ≡ old) × (status ≡ wanted)
IsToldLine old new (Some words) wanted status = IsTold old new (words ++ codes "\n") wanted status

-- want of memory
abbrev pub IsNoMemory : Output → Output → Status → Type 0
IsNoMemory old new status = IsToldLine old new (Some (codes "no memory")) statuses.NoMemory status

-- what a replay promises of its end
abbrev pub IsEnd : Bool → Input → Input → Output → Output → Option (List ℕ) → Result Replayed ReplayFault → Type 0
IsEnd threads input rest old new name (Ok replayed) = IsReplayed threads input rest old new name replayed.nomem
IsEnd threads input rest old new name (Err fault) = IsFault threads input rest old new name fault

-- the script was run, on threads or on one, with this name chosen or with none, and then its end was told
abbrev pub IsRun : Bool → Input → Input → Output → Output → Option (List ℕ) → Status → Type 0
IsRun threads input rest old new name status =
    (end : Result Replayed ReplayFault) × (text : Output) × IsEnd threads input rest old text name end
    × IsToldLine text new (words_of name end) (status_of end) status

-- what is told where threads are asked for and heaps for the files
abbrev pub one_thread_line : List ℕ
one_thread_line = codes "--tree-heap needs one thread\n"

-- The words are taken, and the script is run as they ask; or they aren't, a text says so, and nothing is read; or they ask
-- for what threads can't have, a line says so, and nothing is read; or memory was wanted before anything was read, and a
-- line says so
abbrev pub Obeys : List (List ℕ) → Input → Input → Output → Output → Status → Type 0
Obeys words input rest old new status =
    ((refusals words ≡ []) × (needs_one_thread words ≡ false)
    × IsRun (wants_threads words) input rest old new (name_in words) status)
    ⊎ (((refusals words ≢ []) × (rest ≡ input) × IsUsage old new status)
    ⊎ (((refusals words ≡ []) × (needs_one_thread words ≡ true) × (rest ≡ input)
    × IsTold old new one_thread_line statuses.Usage status)
    ⊎ ((rest ≡ input) × IsNoMemory old new status)))

-- where all is done, the gate was told of each step, or of those of the name that is chosen
abbrev pub IsGatedIfDone : Passed → Input → Input → Option (List ℕ) → Status → Type 0
IsGatedIfDone passed input rest name status = status ≡ statuses.Done → IsGated passed input rest name
