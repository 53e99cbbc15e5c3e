-- What a text depends on: without want of memory the answers to a namespace's steps are its lone machine's replies.

use Rattle.std.proofs.Common.{◌≡◌, ℕ, zero, suc, ◌+◌, List, [], ◌∷◌, ◌++◌, length, map, Option, Some, None}
use Rattle.std.proofs.Common.{Bool, true, false, refl, ap, subst, sym, ◌∙◌, arith, append-nil, append_assoc}
use Rattle.std.specs.Prelude.{Result, Ok, Err, nat_eq, not, bytes_eq, codes, decimal, slice_get, if◌then◌else◌}
use Rattle.std.specs.List.{position_from, list_any}
use Rattle.std.specs.Io.KnownBytes.{Consumes, IsAtEnd}
use Rattle.std.proofs.lemmas.Slice.Eq.{bytes_eq-Decides}
use Rattle.pf_base.specs.Limits.{Limits}
use Rattle.pf_base.specs.declared.admission.EventAnswer.{EventAnswer}
use Rattle.pf_base.specs.declared.admission.EventAnswer.TheVariants as told
use Rattle.pf_base.specs.declared.step.Step.{Step}
use Rattle.pf_base.specs.declared.step.Answer.{Answer}
use Rattle.pf_base.specs.declared.step.Answer.TheVariants.{Done, NoMemory}
use Rattle.pf_machine.specs.Events.{mine, replies, IsAmple}
use Rattle.pf_machine.specs.Runs.{lone}
use Rattle.pf_machine.proofs.EventLaws.{kept-mine}
use Rattle.pf_script.specs.Ports.{Input, IsWhole, IsWritten}
use Rattle.pf_script.specs.Script.{Draft, place_of, read_script}
use Rattle.pf_script.specs.Sound.{AreGiven}
use Rattle.pf_script.specs.Text.{answers_of, event_text, lines_text, header, section, section_of, sections, print, text}
use Rattle.pf_script.specs.declared.line.Line.{Line}
use Rattle.pf_script.specs.declared.line.Line.TheVariants as lines
use Rattle.pf_script.specs.declared.refusal.Refusal.{Refusal}
use Rattle.pf_play.specs.Houses.{alone, events_of, first_house}
use Rattle.pf_play.specs.Played.{IsPlayed, IsPlayedAlone, kept_alone, replies_alone}
use Rattle.pf_play.specs.Played.{comes_and_goes, is_step, steps_among, steps_of}
use Rattle.pf_play.specs.Plays.{IsPlayedFor, IsPlayedWhere, nomem_of, one_where_wanted}
use Rattle.pf_play.specs.Replays.{IfAccepted, Names}
use Rattle.pf_play.specs.Texts.{SameText, IsAdmitted, IsSectionOf, OneSection}
use Rattle.pf_play.proofs.AdmittedLaws.{same_section}
use Rattle.pf_play.proofs.KnownLaws.{read_known}
use Rattle.pf_play.proofs.MergeLaws.{own_of, some_low}
use Rattle.pf_play.proofs.SameLaws.{fall_same}

-- The input

-- a reader of known bytes that was read to its end gave these bytes
whole_known : (input rest : Input) (bytes read : List ℕ) → input.remaining ≡ Some bytes →
    IsWhole input rest read → read ≡ bytes
whole_known input rest bytes read known whole = by input.remaining rest.remaining known whole.0 whole.1
  where
    by : (old new : Option (List ℕ)) → old ≡ Some bytes → Consumes old new read → IsAtEnd new → read ≡ bytes
    by None new known gave end = absurd (cc)
    by (Some xs) None known gave end = absurd gave
    by (Some xs) (Some ys) known gave end =
        let same : xs ≡ bytes = cc in
        sym (append-nil read) ∙ ap (λ r. read ++ r) (sym end) ∙ sym gave ∙ same

-- what two runs say of an accepted script
both : (read : Result Draft Refusal) (P Q R : Draft → Type 0) → IfAccepted read P → IfAccepted read Q →
    ((script : Draft) → read ≡ Ok script → P script → Q script → R script) → IfAccepted read R
both (Ok script) P Q R p q join = join script refl p q
both (Err refusal) P Q R p q join = absurd p

-- and what follows from it without a word of the script
either_way : (read : Result Draft Refusal) (P Q : Draft → Type 0) (C : Type 0) → IfAccepted read P →
    IfAccepted read Q → ((script : Draft) → P script → Q script → C) → C
either_way (Ok script) P Q C p q join = join script p q
either_way (Err refusal) P Q C p q join = absurd p

-- Without want of memory

-- how many of these want it
abbrev wants_of : List Answer → ℕ
wants_of [] = 0
wants_of (a ∷ answers) = one_where_wanted a + wants_of answers

wants_told : (own : List Answer) → nomem_of (map told.Answer own) ≡ wants_of own
wants_told [] = refl
wants_told (a ∷ own) = ap (λ k. one_where_wanted a + k) (wants_told own)

-- each step was made
all_done : (answers : List Answer) → 0 ≡ wants_of answers → answers ≡ map Done (replies_alone answers)
all_done [] none = refl
all_done (Done r ∷ answers) none = ap (λ rest. Done r ∷ rest) (all_done answers (omega (arith, none)))
all_done (NoMemory ∷ answers) none = absurd (omega (arith, none))

-- and kept
all_kept : (steps : List Step) (answers : List Answer) → length answers ≡ length steps → 0 ≡ wants_of answers →
    kept_alone steps answers ≡ steps
all_kept [] answers many none = refl
all_kept (x ∷ xs) [] many none = absurd (omega (arith, many))
all_kept (x ∷ xs) (Done r ∷ answers) many none =
    ap (λ rest. x ∷ rest) (all_kept xs answers (omega (arith, many)) (omega (arith, none)))
all_kept (x ∷ xs) (NoMemory ∷ answers) many none = absurd (omega (arith, none))

ample : (steps : List (ℕ × Step)) (answers : List Answer) (n : ℕ) → length answers ≡ length steps →
    0 ≡ wants_of answers → IsAmple steps answers n
ample [] answers n many none = tt
ample (e ∷ es) [] n many none = absurd (omega (arith, many))
ample (e ∷ es) (Done r ∷ answers) n many none =
    (λ own. tt, ample es answers n (omega (arith, many)) (omega (arith, none)))
ample (e ∷ es) (NoMemory ∷ answers) n many none = absurd (omega (arith, none))

own_done : (steps : List (ℕ × Step)) (answers : List Answer) (n : ℕ) → 0 ≡ wants_of answers →
    own_of steps answers n ≡ map Done (replies steps answers n)
own_done [] answers n none = refl
own_done (e ∷ es) [] n none = refl
own_done (e ∷ es) (Done r ∷ answers) n none = by (nat_eq e.0 n) (own_done es answers n (omega (arith, none)))
  where
    by : (b : Bool) → own_of es answers n ≡ map Done (replies es answers n) →
        (if b then Done r ∷ own_of es answers n else own_of es answers n)
        ≡ map Done (if b then r ∷ replies es answers n else replies es answers n)
    by true rest = ap (λ xs. Done r ∷ xs) rest
    by false rest = rest
own_done (e ∷ es) (NoMemory ∷ answers) n none = absurd (omega (arith, none))

-- the answers to a namespace's steps in a run of all
own_told : (script : Draft) (answers : List Answer) (n : ℕ) (space : List ℕ × Limits) → IsPlayed script answers →
    0 ≡ wants_of answers → slice_get script.spaces n ≡ Some space →
    own_of (steps_of script) answers n ≡ map Done (lone space.1 (mine (steps_of script) n))
own_told script answers n space played none is =
    let here = rw is at (played.1 n) in
    let all = kept-mine (steps_of script) answers n (ample (steps_of script) answers n played.0 none) in
    own_done (steps_of script) answers n none ∙ ap (map Done) (here.0 ∙ ap (lone space.1) all)

-- and in a run of its own
told_alone : (script : Draft) (answers : List Answer) (n : ℕ) (space : List ℕ × Limits) →
    IsPlayedAlone script n answers → 0 ≡ wants_of answers → slice_get script.spaces n ≡ Some space →
    answers ≡ map Done (lone space.1 (mine (steps_of script) n))
told_alone script answers n space played none is =
    let here = rw is at played.1 in
    let all = all_kept (mine (steps_of script) n) answers played.0 none in
    all_done answers none ∙ ap (map Done) (here.0 ∙ ap (lone space.1) all)

-- the same of the lines, each of which is a step

answers_own : (es : List (ℕ × Line)) (own : List Answer) (n : ℕ) →
    list_any (λ (e : ℕ × Line). not (is_step e.1)) es ≡ false →
    answers_of es (map told.Answer own) n ≡ map told.Answer (own_of (steps_among es) own n)
unfolding answers_of
answers_own [] own n only = refl
answers_own ((k, lines.Step s) ∷ es) [] n only = refl
answers_own ((k, lines.Step s) ∷ es) (a ∷ own) n only =
    let more = answers_own es own n only in
    elim (nat_eq k n) as
    (λ b. (if b then told.Answer a ∷ answers_of es (map told.Answer own) n else answers_of es (map told.Answer own) n)
    ≡ map told.Answer (if b then a ∷ own_of (steps_among es) own n else own_of (steps_among es) own n)) [
      | true ↦ ap (λ (r : List EventAnswer). told.Answer a ∷ r) more
      | false ↦ more
    ]
answers_own ((k, lines.Admit) ∷ es) own n only = absurd (cc)
answers_own ((k, lines.Retire) ∷ es) own n only = absurd (cc)

-- what a name is told
abbrev plain_answers : Draft → ℕ → List ℕ × Limits → List EventAnswer
plain_answers script n space = map told.Answer (map Done (lone space.1 (mine (steps_of script) n)))

-- no line wanted memory, and these are answers to steps
wants_none : (own : List Answer) (answers : List EventAnswer) → answers ≡ map told.Answer own → 0 ≡ nomem_of answers →
    0 ≡ wants_of own
wants_none own answers same none = none ∙ ap nomem_of same ∙ wants_told own

plain_told : (script : Draft) (answers : List EventAnswer) (n : ℕ) (space : List ℕ × Limits) →
    comes_and_goes script ≡ false → IsPlayedWhere false script None answers → 0 ≡ nomem_of answers →
    slice_get script.spaces n ≡ Some space → answers_of script.steps answers n ≡ plain_answers script n space
plain_told script answers n space only played none is =
    ap (λ (xs : List EventAnswer). answers_of script.steps xs n) played.1
    ∙ answers_own script.steps played.0 n only
    ∙ ap (map told.Answer)
    (own_told script played.0 n space played.2 (wants_none played.0 answers played.1 none) is)

plain_alone : (script : Draft) (answers : List EventAnswer) (n : ℕ) (space : List ℕ × Limits) →
    IsPlayedWhere false script (Some n) answers → 0 ≡ nomem_of answers →
    slice_get script.spaces n ≡ Some space → answers ≡ plain_answers script n space
plain_alone script answers n space played none is =
    played.1
    ∙ ap (map told.Answer)
    (told_alone script played.0 n space played.2 (wants_none played.0 answers played.1 none) is)

-- Sections

-- sections are the same where the answers to each namespace's steps are
same_sections : (k : ℕ) (spaces : List (List ℕ × Limits)) (steps : List (ℕ × Line)) (first second : List EventAnswer) →
    ((i : ℕ) (space : List ℕ × Limits) → slice_get spaces i ≡ Some space →
    answers_of steps first (k + i) ≡ answers_of steps second (k + i)) →
    sections k spaces steps first ≡ sections k spaces steps second
unfolding sections
same_sections k [] steps first second same = refl
same_sections k (space ∷ spaces) steps first second same =
    let zeroth : k + 0 ≡ k = omega arith in
    let here : answers_of steps first k ≡ answers_of steps second k = rw zeroth at (same 0 space refl) in
    let there = same_sections (k + 1) spaces steps first second (λ i s is.
    let next : k + suc i ≡ k + 1 + i = omega arith in
    rw next at (same (suc i) s is)) in
    λ j. section space.0 (here j) ++ there j

-- a namespace's section stands in the text of all
section_within : (k : ℕ) (spaces : List (List ℕ × Limits)) (steps : List (ℕ × Line)) (answers : List EventAnswer) (i : ℕ)
    (space : List ℕ × Limits) → slice_get spaces i ≡ Some space → (before : List ℕ) × (after : List ℕ)
    × (sections k spaces steps answers ≡ before ++ section space.0 (answers_of steps answers (k + i)) ++ after)
unfolding sections
section_within k [] steps answers i space is = absurd (cc)
section_within k (s ∷ spaces) steps answers zero space is =
    let zeroth : k + 0 ≡ k = omega arith in
    let same : s ≡ space = cc in
    let rest = sections (k + 1) spaces steps answers in
    ([], rest, rw zeroth (ap (λ (x : List ℕ × Limits). section x.0 (answers_of steps answers k) ++ rest) same))
section_within k (s ∷ spaces) steps answers (suc i) space is =
    let next : k + suc i ≡ k + 1 + i = omega arith in
    let rest = section_within (k + 1) spaces steps answers i space is in
    let first = section s.0 (answers_of steps answers k) in
    let here = section space.0 (answers_of steps answers (k + 1 + i)) in
    let joined : first ++ (rest.0 ++ here ++ rest.1) ≡ (first ++ rest.0) ++ here ++ rest.1 =
    sym (append_assoc first (rest.0 ++ here) rest.1) ∙ ap (λ t. t ++ rest.1) (sym (append_assoc first rest.0 here)) in
    (first ++ rest.0, rest.1, rw next (ap (λ t. first ++ t) rest.2 ∙ joined))

-- Names

-- there is a namespace of this name at this place, where the first is at k
IsNamed : List ℕ → ℕ → ℕ → List (List ℕ × Limits) → Type 0
IsNamed name k n spaces =
    (i : ℕ) × (space : List ℕ × Limits) × (n ≡ k + i) × (slice_get spaces i ≡ Some space) × (space.0 ≡ name)

named_from : (name : List ℕ) (k n : ℕ) (spaces : List (List ℕ × Limits)) →
    position_from (λ s. bytes_eq s.0 name) k spaces ≡ Some n → IsNamed name k n spaces
unfolding IsNamed
named_from name k n [] is = absurd (cc)
named_from name k n (s ∷ spaces) is = by (bytes_eq s.0 name) refl is (named_from name (k + 1) n spaces)
  where
    by : (b : Bool) → bytes_eq s.0 name ≡ b →
        (if b then Some k else position_from (λ s. bytes_eq s.0 name) (k + 1) spaces) ≡ Some n →
        (position_from (λ s. bytes_eq s.0 name) (k + 1) spaces ≡ Some n → IsNamed name (k + 1) n spaces) →
        IsNamed name k n (s ∷ spaces)
    by true same is rest =
        let here : k ≡ n = cc in
        (0, s, omega (arith, here), refl, (bytes_eq-Decides s.0 name).0 same)
    by false other is rest =
        let there = rest is in
        (suc there.0, there.1, omega (arith, there.2), there.3, there.4)

named_at : (name : List ℕ) (n : ℕ) (spaces : List (List ℕ × Limits)) → place_of name spaces ≡ Some n →
    (space : List ℕ × Limits) × (slice_get spaces n ≡ Some space) × (space.0 ≡ name)
unfolding IsNamed
named_at name n spaces is =
    let found = named_from name 0 n spaces is in
    let here : found.0 ≡ n = omega (arith, found.2) in
    (found.1, subst (λ i. slice_get spaces i ≡ Some found.1) here found.3, found.4)

-- Two runs

same_none : (b : Bool) (script : Draft) (first second : List EventAnswer) → comes_and_goes script ≡ b →
    IsPlayedWhere b script None first → IsPlayedWhere b script None second → 0 ≡ nomem_of first → 0 ≡ nomem_of second →
    text script first None ≡ text script second None
same_none true script first second is played played' none none' =
    ap (print script)
    (fall_same (first_house script) played.end played'.end (events_of script) first second played.fall played'.fall none none')
same_none false script first second is played played' none none' =
    same_sections 0 script.spaces script.steps first second (λ i space there.
    let n : 0 + i ≡ i = omega arith in
    rw n (plain_told script first i space is played none there ∙ sym (plain_told script second i space is played' none' there)))

same_one : (b : Bool) (script : Draft) (n : ℕ) (first second : List EventAnswer) →
    IsPlayedWhere b script (Some n) first → IsPlayedWhere b script (Some n) second → 0 ≡ nomem_of first →
    0 ≡ nomem_of second → text script first (Some n) ≡ text script second (Some n)
same_one true script n first second played played' none none' =
    ap (section_of (slice_get script.spaces n))
    (fall_same (first_house (alone script n)) played.end played'.end (events_of (alone script n)) first second played.fall
    played'.fall none none')
same_one false script n first second played played' none none' = by (slice_get script.spaces n) refl
  where
    by : (r : Option (List ℕ × Limits)) → slice_get script.spaces n ≡ r → section_of r first ≡ section_of r second
    by None is = refl
    by (Some space) is =
        ap (section space.0)
        (plain_alone script first n space played none is ∙ sym (plain_alone script second n space played' none' is))

-- the texts with the same name chosen, or none
same_chosen : (script : Draft) (name : Option (List ℕ)) (only only' : Option ℕ) (first second : List EventAnswer) →
    Names script name only → Names script name only' → IsPlayedFor script only first →
    IsPlayedFor script only' second → 0 ≡ nomem_of first → 0 ≡ nomem_of second →
    text script first only ≡ text script second only'
same_chosen script None None None first second is is' played played' none none' =
    same_none (comes_and_goes script) script first second refl played played' none none'
same_chosen script None None (Some n) first second is is' played played' none none' = absurd (cc)
same_chosen script None (Some n) only' first second is is' played played' none none' = absurd (cc)
same_chosen script (Some name) None only' first second is is' played played' none none' = absurd is
same_chosen script (Some name) (Some n) None first second is is' played played' none none' = absurd is'
same_chosen script (Some name) (Some n) (Some m) first second is is' played played' none none' =
    let same : m ≡ n = cc in
    same_one (comes_and_goes script) script n first second played
    (subst (λ k. IsPlayedFor script (Some k) second) same played') none none'
    ∙ ap (λ k. text script second (Some k)) (sym same)

pub same_text : SameText
same_text threads threads' bytes name input rest input' rest' old new old' new' known known' run run' =
    let first = rw (whole_known input rest bytes run.0 known run.1) at run.2 in
    let second = rw (whole_known input' rest' bytes run'.0 known' run'.1) at run'.2 in
    either_way (read_script bytes) _ _ _ first second (λ script p q.
    let same = same_chosen script name p.1 q.1 p.2 q.2 p.3 q.3 p.4 q.4 p.6 q.6 in
    (text script p.2 p.1, p.5, subst (λ t. IsWritten old' new' t) (sym same) q.5))

-- One name's section

-- answers of the same text have the same lines
lines_same : (i : ℕ) (xs ys : List EventAnswer) → map event_text xs ≡ map event_text ys →
    lines_text i xs ≡ lines_text i ys
unfolding lines_text
lines_same i [] [] same = refl
lines_same i [] (y ∷ ys) same = absurd (cc)
lines_same i (x ∷ xs) [] same = absurd (cc)
lines_same i (x ∷ xs) (y ∷ ys) same =
    let here : event_text x ≡ event_text y = cc in
    let rest : map event_text xs ≡ map event_text ys = cc in
    let more = lines_same (i + 1) xs ys rest in
    λ j. (decimal i ++ codes ": " ++ here j ++ codes "\n") ++ more j

section_same : (name : List ℕ) (xs ys : List EventAnswer) → map event_text xs ≡ map event_text ys →
    section name xs ≡ section name ys
section_same name xs ys same = ap (λ t. header name ++ t) (lines_same 1 xs ys same)

own_same : (b : Bool) (script : Draft) (n : ℕ) (space : List ℕ × Limits) (first second : List EventAnswer) →
    comes_and_goes script ≡ b → AreGiven script.opening script.steps (length script.spaces) →
    slice_get script.spaces n ≡ Some space → IsPlayedWhere b script (Some n) first → IsPlayedWhere b script None second →
    0 ≡ nomem_of first → 0 ≡ nomem_of second → (b ≡ true → IsAdmitted script second n) →
    map event_text (answers_of script.steps second n) ≡ map event_text first
own_same true script n space first second is known there played played' none none' begins =
    same_section script n first second (some_low script.spaces n space there) known played played' none none' (begins refl)
own_same false script n space first second is known there played played' none none' begins =
    ap (map event_text)
    (plain_told script second n space is played' none' there ∙ sym (plain_alone script first n space played none there))

-- the section of one namespace, and the text of all
section_chosen : (script : Draft) (name : List ℕ) (only only' : Option ℕ) (first second : List EventAnswer) →
    AreGiven script.opening script.steps (length script.spaces) →
    Names script (Some name) only → Names script None only' → IsPlayedFor script only first →
    IsPlayedFor script only' second → 0 ≡ nomem_of first → 0 ≡ nomem_of second →
    (n : ℕ) × (answers : List EventAnswer) × (place_of name script.spaces ≡ Some n)
    × IsPlayedFor script None answers × (text script second only' ≡ print script answers)
    × ((comes_and_goes script ≡ true → IsAdmitted script answers n) →
    IsSectionOf script answers n name (text script first only) (text script second only'))
section_chosen script name None only' first second known is is' played played' none none' = absurd is
section_chosen script name (Some n) (Some m) first second known is is' played played' none none' = absurd (cc)
section_chosen script name (Some n) None first second known is is' played played' none none' =
    let found = named_at name n script.spaces is in
    let space = found.0 in
    let whole : List EventAnswer = answers_of script.steps second n in
    let zeroth : 0 + n ≡ n = omega arith in
    let stands = rw zeroth at (section_within 0 script.spaces script.steps second n space found.1) in
    let named : section space.0 whole ≡ section name whole = ap (λ x. section x whole) found.2 in (
      n,
      second,
      is,
      played',
      refl,
      λ begins.
          let same : map event_text whole ≡ map event_text first =
          own_same (comes_and_goes script) script n space first second refl known found.1 played played' none none' begins in
          let part : section_of (slice_get script.spaces n) first ≡ section name whole =
          ap (λ r. section_of r first) found.1 ∙ section_same space.0 first whole (sym same) ∙ named in (
            stands.0,
            stands.1,
            part,
            stands.2 ∙ ap (λ t. stands.0 ++ t ++ stands.1) (named ∙ sym part),
          ),
    )

pub one_section : OneSection
one_section threads threads' bytes name input rest input' rest' old new old' new' known known' run run' =
    let first = rw (whole_known input rest bytes run.0 known run.1) at run.2 in
    let second = rw (whole_known input' rest' bytes run'.0 known' run'.1) at run'.2 in
    both (read_script bytes) _ _ _ first second (λ script read p q.
    let stands = section_chosen script name p.1 q.1 p.2 q.2 (read_known bytes script read) p.3 q.3 p.4 q.4 p.6 q.6 in
    (text script p.2 p.1, text script q.2 q.1, p.5, q.5, stands.0, stands.1, stands.2, stands.3, stands.4, stands.5))
