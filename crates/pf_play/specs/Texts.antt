-- What a text depends on: the bytes of the script and the name that is chosen, and nothing else.

use Rattle.std.specs.Prelude.{ℕ, ◌≡◌, Bool, true, List, ◌++◌, Option, Some, None, IsSome}
use Rattle.pf_base.specs.declared.admission.EventAnswer.{EventAnswer}
use Rattle.pf_script.specs.Ports.{Input, Output, IsWritten}
use Rattle.pf_script.specs.Script.{Draft, place_of, read_script}
use Rattle.pf_script.specs.Text.{answers_of, section, print}
use Rattle.pf_machine.specs.Houses.{begun}
use Rattle.pf_machine.specs.Numbered.{at}
use Rattle.pf_play.specs.Houses.{first_house, events_of}
use Rattle.pf_play.specs.Played.{comes_and_goes}
use Rattle.pf_play.specs.Plays.{IsPlayedFor}
use Rattle.pf_play.specs.Replays.{IfAccepted, IsReplayed}

-- Two runs over readers of the same bytes, both with this name chosen or both with none, on threads or on one: where no
-- line of either met want of memory, they write the same text, whatever the frames held and whatever the writers are
abbrev pub SameText : Type 0
SameText =
    (threads threads' : Bool) (bytes : List ℕ) (name : Option (List ℕ)) (input rest input' rest' : Input) (old new old' new' : Output) →
    input.remaining ≡ Some bytes → input'.remaining ≡ Some bytes →
    IsReplayed threads input rest old new name 0 → IsReplayed threads' input' rest' old' new' name 0 →
    (written : List ℕ) × IsWritten old new written × IsWritten old' new' written

-- the name has a namespace: from the start, or from a line that admitted it
abbrev pub IsAdmitted : Draft → List EventAnswer → ℕ → Type 0
IsAdmitted script answers n = IsSome (begun (at (first_house script).guests n) (events_of script) answers n)

-- the part is the section with this name, as it stands in the text of these answers
abbrev pub IsSectionOf : Draft → List EventAnswer → ℕ → List ℕ → List ℕ → List ℕ → Type 0
IsSectionOf script answers n name part whole =
    (before : List ℕ) × (after : List ℕ)
    × (part ≡ section name (answers_of script.steps answers n))
    × (whole ≡ before ++ part ++ after)

-- A run with this name chosen and one with none, over readers of the same bytes: where no line of either met want of
-- memory, the first writes the section with this name of the text that the second writes; if, where namespaces come
-- and go, the second admitted it
abbrev pub OneSection : Type 0
OneSection =
    (threads threads' : Bool) (bytes name : List ℕ) (input rest input' rest' : Input) (old new old' new' : Output) →
    input.remaining ≡ Some bytes → input'.remaining ≡ Some bytes →
    IsReplayed threads input rest old new (Some name) 0 → IsReplayed threads' input' rest' old' new' None 0 →
    IfAccepted (read_script bytes) (λ script. (part : List ℕ) × (whole : List ℕ)
    × IsWritten old new part × IsWritten old' new' whole
    × (n : ℕ) × (answers : List EventAnswer) × (place_of name script.spaces ≡ Some n)
    × IsPlayedFor script None answers × (whole ≡ print script answers)
    × ((comes_and_goes script ≡ true → IsAdmitted script answers n) → IsSectionOf script answers n name part whole))
