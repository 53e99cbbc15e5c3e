-- A run's text, by computation.

use Rattle.std.proofs.Common.{◌≡◌, ℕ, List, [], ◌∷◌, refl}
use Rattle.std.proofs.Common.{arith}
use Rattle.std.proofs.lemmas.Fmt.{decimal_digit}
use Rattle.std.specs.Prelude.{codes}
use Rattle.pf_base.specs.declared.admission.AdmitFault.TheVariants as admission
use Rattle.pf_base.specs.declared.admission.RetireFault.TheVariants as retirement
use Rattle.pf_base.specs.declared.admission.EventAnswer.{EventAnswer}
use Rattle.pf_base.specs.declared.admission.EventAnswer.TheVariants as told
use Rattle.pf_base.specs.declared.step.Reply.{Reply}
use Rattle.pf_base.specs.declared.step.Answer.TheVariants.{Done}
use Rattle.pf_base.specs.declared.step.Reply.TheVariants as kinds
use Rattle.pf_script.specs.Text.{print, line_text, lines_text, answers_of, sections, octal_text, number_of_names, names_text}
use Rattle.pf_script.proofs.ScriptExamples.{hello_draft, guests_draft}
use Rattle.hex.specs.Hex.{encode_with}
use Rattle.std.specs.Fmt.{digits}
use Rattle.std.specs.Borrow.{Bor}
use Rattle.pf_words.specs.declared.cause.Cause.TheVariants as causes
use Rattle.pf_script.specs.declared.notice.Notice.TheVariants as notices
use Rattle.pf_script.specs.Notices.{notice_line}

-- a step that was made
abbrev pub done : Reply → EventAnswer
done reply = told.Answer (Done reply)

abbrev pub hello_answers : List EventAnswer
hello_answers = done (kinds.Pid 1) ∷ done (kinds.Fds 0 1) ∷ done (kinds.Num 5) ∷ done (kinds.Bytes (codes "hel")) ∷ done (kinds.Bytes (codes "lo")) ∷ done (kinds.Num 0) ∷ done (kinds.Bytes []) ∷ done (kinds.Num 0) ∷ []

pub hello_text : print hello_draft hello_answers ≡ codes "== red\n1: pid 1\n2: fds 0 1\n3: num 5\n4: bytes 3 68656c\n5: bytes 2 6c6f\n6: num 0\n7: bytes 0 -\n8: num 0\n"
unfolding lines_text answers_of sections encode_with
hello_text = rw (decimal_digit 0 (omega arith), decimal_digit 1 (omega arith), decimal_digit 2 (omega arith), decimal_digit 3 (omega arith), decimal_digit 4 (omega arith), decimal_digit 5 (omega arith), decimal_digit 6 (omega arith), decimal_digit 7 (omega arith), decimal_digit 8 (omega arith)) refl

-- a call that waits
pub waits : line_text 3 (done kinds.Parked) ≡ codes "3: parked\n"
waits = rw (decimal_digit 3 (omega arith)) refl

-- what is told of a namespace that doesn't come, or stays
no_room : line_text 1 (told.NotAdmitted (admission.NoRoom 1)) ≡ codes "1: no room 1\n"
no_room = rw (decimal_digit 1 (omega arith)) refl

too_many : line_text 1 (told.NotAdmitted admission.TooManyNamespaces) ≡ codes "1: too many namespaces\n"
too_many = rw (decimal_digit 1 (omega arith)) refl

no_memory : line_text 1 (told.NotAdmitted admission.NoMemory) ≡ codes "1: nomem\n"
no_memory = rw (decimal_digit 1 (omega arith)) refl

retired_before : line_text 2 (told.NotRetired retirement.NoSuchNamespace) ≡ codes "2: gone\n"
retired_before = rw (decimal_digit 2 (omega arith)) refl

-- namespaces that come and go
abbrev pub guests_answers : List EventAnswer
guests_answers = done (kinds.Pid 1) ∷ told.NotAdmitted (admission.NoRoom 1) ∷ told.Admitted 1 ∷ done (kinds.Num 0) ∷ told.Retired ∷ told.Admitted 2 ∷ done (kinds.Pid 1) ∷ told.NotRetired (retirement.Alive 1) ∷ told.Gone ∷ told.Gone ∷ []

pub guests_text : print guests_draft guests_answers ≡ codes "== red\n1: pid 1\n2: num 0\n3: retired\n4: gone\n== blue\n1: no room 1\n2: gone\n== green\n1: admitted\n2: pid 1\n3: alive 1\n== grey\n1: admitted\n"
unfolding lines_text answers_of sections
guests_text = rw (decimal_digit 0 (omega arith), decimal_digit 1 (omega arith), decimal_digit 2 (omega arith), decimal_digit 3 (omega arith), decimal_digit 4 (omega arith)) refl

-- a mode, and names
octal : octal_text 420 ≡ codes "0644"
octal = refl

no_names : names_text [] [] ≡ []
unfolding names_text
no_names = refl

two_names : names_text [] (codes "ab/c/") ≡ codes " ab c"
unfolding names_text
two_names = refl

two : number_of_names (codes "ab/c/") ≡ 2
two = refl

-- what is told of a refusal
refused : notice_line (notices.Refused (record { line = 3; cause = causes.ReservationsExceed 33 32 })) ≡
    codes "line 3: reservations 33 exceed pool 32\n"
unfolding digits
refused = refl

-- of a name that no namespace has
unknown : (name : Bor (List ℕ)) → name.now ≡ codes "green" → notice_line (notices.NoNamespace name) ≡
    codes "no namespace green\n"
unknown name is = rw is refl
