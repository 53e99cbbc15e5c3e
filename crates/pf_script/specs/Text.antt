-- The text that a run prints.

use Rattle.std.specs.Prelude.{ℕ, ◌+◌, ◌/◌, ◌%◌, ◌≡◌, ◌<◌, nat_eq, List, [], ◌∷◌, ◌++◌, length, filter, codes, decimal, slice_get, slice_index_or, map, Option, Some, None, if◌then◌else◌}
use Rattle.hex.specs.Hex.{encode_lower}
use Rattle.pf_script.specs.declared.line.Line.{Line}
use Rattle.pf_base.specs.declared.step.Reply.{Reply}
use Rattle.pf_base.specs.declared.step.Reply.TheVariants as kinds
use Rattle.pf_base.specs.declared.step.Answer.{Answer}
use Rattle.pf_base.specs.declared.step.Answer.TheVariants.{Done, NoMemory}
use Rattle.pf_base.specs.declared.meta.Kind.{Kind}
use Rattle.pf_base.specs.declared.meta.Kind.TheVariants.{Fifo, Directory}
use Rattle.pf_base.specs.declared.meta.Meta.{Meta}
use Rattle.pf_base.specs.Errors.{name_of}
use Rattle.pf_base.specs.declared.admission.AdmitFault.TheVariants as admission
use Rattle.pf_base.specs.declared.admission.RetireFault.TheVariants as retirement
use Rattle.pf_base.specs.declared.admission.EventAnswer.{EventAnswer}
use Rattle.pf_base.specs.declared.admission.EventAnswer.TheVariants as told
use Rattle.pf_script.specs.Places.{lines_of}
use Rattle.pf_base.specs.Limits.{Limits}
use Rattle.pf_script.specs.Script.{Draft}

-- bytes in hexadecimal digits of lower case, and `-` for none
abbrev pub hex_text : List ℕ → List ℕ
hex_text [] = codes "-"
hex_text (b ∷ bs) = encode_lower (b ∷ bs)

-- a mode in four octal digits
abbrev pub octal_text : ℕ → List ℕ
octal_text m = (48 + m / 512 % 8) ∷ (48 + m / 64 % 8) ∷ (48 + m / 8 % 8) ∷ (48 + m % 8) ∷ []

abbrev pub kind_text : Kind → List ℕ
kind_text Fifo = codes "fifo"
kind_text Directory = codes "dir"

abbrev pub meta_text : Meta → List ℕ
meta_text m =
    codes "meta " ++ kind_text m.kind ++ codes " " ++ octal_text m.mode ++ codes " " ++ decimal m.uid ++ codes " "
    ++ decimal m.gid

-- how many names there are, where each has a slash behind it
abbrev pub number_of_names : List ℕ → ℕ
number_of_names bytes = length (filter (λ b. nat_eq b 47) bytes)

-- each name after a space: what stands before each slash. name: what is read already of the next
unfoldable pub names_text : List ℕ → List ℕ → List ℕ
names_text name [] = []
names_text name (b ∷ bs) = if nat_eq b 47 then codes " " ++ name ++ names_text [] bs else names_text (name ++ b ∷ []) bs

abbrev pub reply_text : Reply → List ℕ
reply_text (kinds.Num n) = codes "num " ++ decimal n
reply_text (kinds.Pid p) = codes "pid " ++ decimal p
reply_text (kinds.Fds a b) = codes "fds " ++ decimal a ++ codes " " ++ decimal b
reply_text (kinds.Bytes bytes) = codes "bytes " ++ decimal (length bytes) ++ codes " " ++ hex_text bytes
reply_text (kinds.Names bytes) = codes "names " ++ decimal (number_of_names bytes) ++ names_text [] bytes
reply_text (kinds.Meta m) = meta_text m
reply_text kinds.Parked = codes "parked"
reply_text (kinds.Err e) = codes "err " ++ name_of e

abbrev pub answer_text : Answer → List ℕ
answer_text (Done reply) = reply_text reply
answer_text NoMemory = codes "nomem"

-- what an event is answered
abbrev pub event_text : EventAnswer → List ℕ
event_text (told.Answer answer) = answer_text answer
event_text told.Gone = codes "gone"
event_text (told.Admitted number) = codes "admitted"
event_text (told.NotAdmitted (admission.NoRoom slack)) = codes "no room " ++ decimal slack
event_text (told.NotAdmitted admission.TooManyNamespaces) = codes "too many namespaces"
event_text (told.NotAdmitted admission.NoMemory) = codes "nomem"
event_text told.Retired = codes "retired"
event_text (told.NotRetired retirement.NoSuchNamespace) = codes "gone"
event_text (told.NotRetired (retirement.Alive processes)) = codes "alive " ++ decimal processes

-- the line of the step with this number
abbrev pub line_text : ℕ → EventAnswer → List ℕ
line_text i answer = decimal i ++ codes ": " ++ event_text answer ++ codes "\n"

-- the lines of the steps from number i on
unfoldable pub lines_text : ℕ → List EventAnswer → List ℕ
lines_text i [] = []
lines_text i (answer ∷ answers) = line_text i answer ++ lines_text (i + 1) answers

-- a namespace's header
abbrev pub header : List ℕ → List ℕ
header name = codes "== " ++ name ++ codes "\n"

-- a namespace's name and the answers to its steps
abbrev pub section : List ℕ → List EventAnswer → List ℕ
section name answers = header name ++ lines_text 1 answers

-- the answers to the steps of namespace n
unfoldable pub answers_of : List (ℕ × Line) → List EventAnswer → ℕ → List EventAnswer
answers_of [] answers n = []
answers_of (e ∷ es) [] n = []
answers_of (e ∷ es) (a ∷ answers) n = if nat_eq e.0 n then a ∷ answers_of es answers n else answers_of es answers n

-- the sections of the namespaces from number n on
unfoldable pub sections : ℕ → List (List ℕ × Limits) → List (ℕ × Line) → List EventAnswer → List ℕ
sections n [] steps answers = []
sections n (space ∷ spaces) steps answers = section space.0 (answers_of steps answers n) ++ sections (n + 1) spaces steps answers

-- the whole text of a script whose steps have these answers
abbrev pub print : Draft → List EventAnswer → List ℕ
print script answers = sections 0 script.spaces script.steps answers

abbrev pub section_of : Option (List ℕ × Limits) → List EventAnswer → List ℕ
section_of None own = []
section_of (Some space) own = section space.0 own

-- the section of namespace n, where these are the answers to its own steps
abbrev pub section_at : Draft → List EventAnswer → ℕ → List ℕ
section_at script own n = section_of (slice_get script.spaces n) own

-- the answers of each namespace apart: those to its own steps
abbrev pub AreApart : Draft → List EventAnswer → List (List EventAnswer) → Type 0
AreApart script answers own = (n : ℕ) → n < length script.spaces →
    slice_index_or own n [] ≡ answers_of script.steps answers n

-- the sections of these namespaces, where each has the answers at its place
unfoldable pub sections_apart : List (List ℕ × Limits) → List (List EventAnswer) → List ℕ
sections_apart [] own = []
sections_apart (space ∷ spaces) [] = []
sections_apart (space ∷ spaces) (answers ∷ own) = section space.0 answers ++ sections_apart spaces own

-- the text, or with one namespace chosen its section alone
abbrev pub text : Draft → List EventAnswer → Option ℕ → List ℕ
text script answers None = print script answers
text script answers (Some n) = section_at script answers n

-- each step has an answer, or with one namespace chosen each of its own
abbrev pub IsAnswered : Draft → List EventAnswer → Option ℕ → Type 0
IsAnswered script answers None = length answers ≡ length script.steps
IsAnswered script answers (Some n) = (n < length script.spaces) × (length answers ≡ length (lines_of script.steps n))

-- the answers at these places
abbrev pub chosen : List EventAnswer → List ℕ → List EventAnswer
chosen answers places = map (λ i. slice_index_or answers i told.Gone) places
