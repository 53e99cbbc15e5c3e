-- The line that a user is told where there is no text.

use Rattle.std.specs.Prelude.{ℕ, List, ◌++◌, codes, decimal}
use Rattle.pf_script.specs.declared.refusal.Refusal.{Refusal}
use Rattle.pf_words.specs.Causes.{cause_text}
use Rattle.pf_script.specs.declared.notice.Notice.{Notice}
use Rattle.pf_script.specs.declared.notice.Notice.TheVariants as notices

-- `line K: CAUSE`
abbrev pub refusal_text : Refusal → List ℕ
refusal_text refusal = codes "line " ++ decimal refusal.line ++ codes ": " ++ cause_text refusal.cause

-- what a user is told where there is no text
abbrev pub notice_text : Notice → List ℕ
notice_text (notices.Refused refusal) = refusal_text refusal
notice_text (notices.NoNamespace name) = codes "no namespace " ++ name.now
notice_text notices.NoMemory = codes "no memory"
notice_text notices.ReadFault = codes "read fault"

-- the same as a line
abbrev pub notice_line : Notice → List ℕ
notice_line notice = notice_text notice ++ codes "\n"
