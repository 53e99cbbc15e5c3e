-- An answer that is kept in little room.

use Rattle.std.specs.Prelude.{Bool, true, false}
use Rattle.pf_base.specs.declared.admission.AdmitFault.TheVariants as admission
use Rattle.pf_base.specs.declared.admission.EventAnswer.{EventAnswer}
use Rattle.pf_base.specs.declared.admission.EventAnswer.TheVariants as answers
use Rattle.pf_base.specs.declared.step.Answer.TheVariants as steps
use Rattle.pf_base.specs.declared.step.Reply.TheVariants as replies
use Rattle.pf_script.specs.declared.told.Flat.{Flat}
use Rattle.pf_script.specs.declared.told.Flat.TheVariants as flat

-- the answer that is kept so
abbrev pub answer_of : Flat → EventAnswer
answer_of (flat.Num n) = answers.Answer (steps.Done (replies.Num n))
answer_of (flat.Pid p) = answers.Answer (steps.Done (replies.Pid p))
answer_of (flat.Fds a b) = answers.Answer (steps.Done (replies.Fds a b))
answer_of (flat.Bytes bytes) = answers.Answer (steps.Done (replies.Bytes bytes))
answer_of (flat.Names bytes) = answers.Answer (steps.Done (replies.Names bytes))
answer_of (flat.Meta m) = answers.Answer (steps.Done (replies.Meta m))
answer_of flat.Parked = answers.Answer (steps.Done replies.Parked)
answer_of (flat.Err e) = answers.Answer (steps.Done (replies.Err e))
answer_of flat.NoMemory = answers.Answer steps.NoMemory
answer_of flat.Gone = answers.Gone
answer_of (flat.Admitted number) = answers.Admitted number
answer_of (flat.NotAdmitted fault) = answers.NotAdmitted fault
answer_of flat.Retired = answers.Retired
answer_of (flat.NotRetired fault) = answers.NotRetired fault

-- it says that memory was wanted
abbrev pub wants_memory : EventAnswer → Bool
wants_memory (answers.Answer steps.NoMemory) = true
wants_memory (answers.NotAdmitted admission.NoMemory) = true
wants_memory _ = false
