-- What a run of a script's lines answers.

use Rattle.std.specs.Prelude.{ℕ, ◌≡◌, ◌+◌, Bool, true, false, List, [], ◌∷◌, map, Option, Some, None}
use Rattle.pf_base.specs.declared.admission.AdmitFault.{AdmitFault}
use Rattle.pf_base.specs.declared.admission.AdmitFault.TheVariants as admission
use Rattle.pf_base.specs.declared.admission.EventAnswer.{EventAnswer}
use Rattle.pf_base.specs.declared.admission.EventAnswer.TheVariants as told
use Rattle.pf_base.specs.declared.step.Answer.{Answer}
use Rattle.pf_base.specs.declared.step.Answer.TheVariants.{Done, NoMemory}
use Rattle.pf_script.specs.Script.{Draft}
use Rattle.pf_play.specs.Houses.{IsHoused, alone}
use Rattle.pf_play.specs.Played.{IsRunFor, comes_and_goes}

-- where no namespace comes or goes, each line is a step, and it is answered as one
abbrev pub IsPlayedWhere : Bool → Draft → Option ℕ → List EventAnswer → Type 0
IsPlayedWhere false script only answers =
    (own : List Answer) × (answers ≡ map told.Answer own) × IsRunFor script only own
IsPlayedWhere true script None answers = IsHoused script answers
IsPlayedWhere true script (Some n) answers = IsHoused (alone script n) answers

-- the answers to a script's lines, or with one name chosen to its lines run alone
abbrev pub IsPlayedFor : Draft → Option ℕ → List EventAnswer → Type 0
IsPlayedFor script only answers = IsPlayedWhere (comes_and_goes script) script only answers

abbrev pub one_where_wanted : Answer → ℕ
one_where_wanted (Done reply) = 0
one_where_wanted NoMemory = 1

abbrev pub one_where_unadmitted : AdmitFault → ℕ
one_where_unadmitted (admission.NoRoom slack) = 0
one_where_unadmitted admission.TooManyNamespaces = 0
one_where_unadmitted admission.NoMemory = 1

abbrev pub nomem_in : EventAnswer → ℕ
nomem_in (told.Answer answer) = one_where_wanted answer
nomem_in told.Gone = 0
nomem_in (told.Admitted n) = 0
nomem_in (told.NotAdmitted fault) = one_where_unadmitted fault
nomem_in told.Retired = 0
nomem_in (told.NotRetired fault) = 0

-- how many lines met want of memory
abbrev pub nomem_of : List EventAnswer → ℕ
nomem_of [] = 0
nomem_of (answer ∷ answers) = nomem_in answer + nomem_of answers
