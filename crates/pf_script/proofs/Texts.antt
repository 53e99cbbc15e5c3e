-- Text that is put part by part: what was put already, and what is left.

use Rattle.std.proofs.Common.{◌≡◌, ℕ, ◌+◌, ◌<◌, ◌≤◌, List, [], ◌∷◌, ◌++◌, length, take, drop, get_or, refl, ap, append_assoc, length-drop, sym, ◌∙◌, arith}
use Rattle.std.specs.Prelude.{nat_eq, zero, suc, true, false, codes, map, option_map, slice_get, Option, Some, None, if◌then◌else◌}
use Rattle.std.proofs.lemmas.List.{take-append-drop, append-nil}
use Rattle.std.proofs.Math.ListN.{drop_of_length-le}
use Rattle.std.proofs.lemmas.Option.{slice_get-map, slice_get-get_or}
use Rattle.hex.specs.Hex.{encode_with, encode_lower, lower_digits}
use Rattle.pf_base.specs.declared.admission.EventAnswer.{EventAnswer}
use Rattle.pf_base.specs.declared.admission.EventAnswer.TheVariants as told
use Rattle.pf_script.specs.Places.{places_from, places_of}
use Rattle.pf_script.specs.declared.line.Line.{Line}
use Rattle.pf_base.specs.Limits.{Limits}
use Rattle.pf_script.specs.Script.{Draft}
use Rattle.memchr.specs.Find.{IsFirstByte, is_byte}
use Rattle.pf_script.specs.Text.{names_text, line_text, lines_text, answers_of, section, section_at, section_of, sections, sections_apart, chosen, print, AreApart}
use Rattle.pf_words.proofs.CutLaws.{next_of}

encode_append : (t xs ys : List ℕ) → encode_with t (xs ++ ys) ≡ encode_with t xs ++ encode_with t ys
unfolding encode_with
encode_append t [] ys = refl
encode_append t (x ∷ xs) ys = rw (encode_append t xs ys) refl

-- the digits of a front were put
pub digits_on : (text rest all : List ℕ) (n : ℕ) → text ++ encode_lower rest ≡ all → (text ++ encode_lower (take n rest)) ++ encode_lower (drop n rest) ≡ all
digits_on text rest all n same =
    append_assoc text (encode_lower (take n rest)) (encode_lower (drop n rest))
    ∙ (ap (λ t. text ++ t) (sym (encode_append lower_digits (take n rest) (drop n rest)) ∙ ap encode_lower (take-append-drop n rest)) ∙ same)

-- the first name, and those behind it
first_name : (name cs : List ℕ) (k : ℕ) → IsFirstByte (is_byte 47) cs (Some k) → names_text name cs ≡ codes " " ++ (name ++ take k cs) ++ names_text [] (drop (k + 1) cs)
unfolding names_text
first_name name [] k found = absurd (omega (arith, found.0.high))
first_name name (c ∷ cs) zero found = rw (found.1, append-nil name) refl
first_name name (c ∷ cs) (suc k) found =
    let step : suc k + 1 ≡ suc (k + 1) = omega arith in
    let rest = first_name (name ++ c ∷ []) cs k (record { low = omega arith; high = omega (arith, found.0.high); before = λ j low high is. found.0.before (suc j) (omega arith) (omega arith) is }, found.1) in
    let front : (name ++ c ∷ []) ++ take k cs ≡ name ++ c ∷ take k cs = append_assoc name (c ∷ []) (take k cs) in
    rw step (elim (nat_eq c 47) as (λ b. nat_eq c 47 ≡ b → (if b then codes " " ++ name ++ names_text [] cs else names_text (name ++ c ∷ []) cs) ≡ codes " " ++ (name ++ c ∷ take k cs) ++ names_text [] (drop (k + 1) cs)) [
      | true ↦ λ is. absurd (found.0.before 0 (omega arith) (omega arith) is)
      | false ↦ λ is. rest ∙ ap (λ xs. codes " " ++ xs ++ names_text [] (drop (k + 1) cs)) front
    ] refl)

no_name : (name cs : List ℕ) → IsFirstByte (is_byte 47) cs None → names_text name cs ≡ []
unfolding names_text
no_name name [] found = refl
no_name name (c ∷ cs) found =
    let rest = no_name (name ++ c ∷ []) cs (λ k low high is. found (suc k) (omega arith) (omega arith) is) in
    elim (nat_eq c 47) as (λ b. nat_eq c 47 ≡ b → (if b then codes " " ++ name ++ names_text [] cs else names_text (name ++ c ∷ []) cs) ≡ []) [
      | true ↦ λ is. absurd (found 0 (omega arith) (omega arith) is)
      | false ↦ λ is. rest
    ] refl

-- a name was put
pub name_on : (text rest all name : List ℕ) (k : ℕ) → IsFirstByte (is_byte 47) rest (Some k) → name ≡ take k rest → text ++ names_text [] rest ≡ all → ((text ++ codes " ") ++ name) ++ names_text [] (drop (k + 1) rest) ≡ all
name_on text rest all name k first is same =
    ap (λ t. t ++ names_text [] (drop (k + 1) rest)) (append_assoc text (codes " ") name)
    ∙ append_assoc text (codes " " ++ name) (names_text [] (drop (k + 1) rest))
    ∙ ap (λ x. text ++ ((codes " " ++ x) ++ names_text [] (drop (k + 1) rest))) is
    ∙ ap (λ x. text ++ x) (sym (first_name [] rest k first))
    ∙ same

pub names_end : (text rest all : List ℕ) → IsFirstByte (is_byte 47) rest None → text ++ names_text [] rest ≡ all → text ≡ all
names_end text rest all none same = sym (append-nil text) ∙ ap (λ x. text ++ x) (sym (no_name [] rest none)) ∙ same

-- a line was put
pub line_on : (done all : List ℕ) (i : ℕ) (answers : List EventAnswer) → i < length answers →
    done ++ lines_text (i + 1) (drop i answers) ≡ all →
    (done ++ line_text (i + 1) (get_or answers i told.Gone)) ++ lines_text (i + 1 + 1) (drop (i + 1) answers) ≡ all
unfolding lines_text
line_on done all i answers high same =
    let here = rw (next_of answers i told.Gone high) at same in
    append_assoc done (line_text (i + 1) (get_or answers i told.Gone)) (lines_text (i + 1 + 1) (drop (i + 1) answers)) ∙ here

pub lines_end : (done all : List ℕ) (i : ℕ) (answers : List EventAnswer) → length answers ≤ i →
    done ++ lines_text (i + 1) (drop i answers) ≡ all → done ≡ all
unfolding lines_text
lines_end done all i answers past same =
    let here = rw (drop_of_length-le answers past) at same in
    sym (append-nil done) ∙ here

-- the line of an answer at a place was put
pub chosen_on : (done all : List ℕ) (i place : ℕ) (answers : List EventAnswer) (places : List ℕ) →
    i < length places → place ≡ get_or places i 0 →
    done ++ lines_text (i + 1) (chosen answers (drop i places)) ≡ all →
    (done ++ line_text (i + 1) (get_or answers place told.Gone)) ++ lines_text (i + 1 + 1) (chosen answers (drop (i + 1) places)) ≡ all
unfolding lines_text
chosen_on done all i place answers places high at_place same =
    let here = rw (next_of places i 0 high, ← at_place) at same in
    append_assoc done (line_text (i + 1) (get_or answers place told.Gone)) (lines_text (i + 1 + 1) (chosen answers (drop (i + 1) places))) ∙ here

pub chosen_end : (done all : List ℕ) (i : ℕ) (answers : List EventAnswer) (places : List ℕ) → length places ≤ i →
    done ++ lines_text (i + 1) (chosen answers (drop i places)) ≡ all → done ≡ all
unfolding lines_text
chosen_end done all i answers places past same =
    let here = rw (drop_of_length-le places past) at same in
    sym (append-nil done) ∙ here

-- the answers to a namespace's steps are those at their places
chosen_from : (all : List EventAnswer) (i : ℕ) (steps : List (ℕ × Line)) (answers : List EventAnswer) (n : ℕ) →
    drop i all ≡ answers → length answers ≡ length steps →
    answers_of steps answers n ≡ chosen all (places_from i steps n)
unfolding answers_of
chosen_from all i [] answers n behind many = refl
chosen_from all i (e ∷ es) [] n behind many = absurd (omega (arith, many))
chosen_from all i (e ∷ es) (a ∷ rest) n behind many =
    let long : length (drop i all) ≡ length (a ∷ rest) = ap length behind in
    let high : i < length all = omega (arith, length-drop i all, long) in
    let split = sym (next_of all i told.Gone high) ∙ behind in
    let here : get_or all i told.Gone ≡ a = cc in
    let rests : drop (i + 1) all ≡ rest = cc in
    let more = chosen_from all (i + 1) es rest n rests (omega (arith, many)) in
    elim (nat_eq e.0 n) as (λ b. (if b then a ∷ answers_of es rest n else answers_of es rest n) ≡ chosen all (if b then i ∷ places_from (i + 1) es n else places_from (i + 1) es n)) [
      | true ↦ λ j. sym here j ∷ more j
      | false ↦ more
    ]

pub chosen_are : (steps : List (ℕ × Line)) (answers : List EventAnswer) (n : ℕ) → length answers ≡ length steps →
    answers_of steps answers n ≡ chosen answers (places_of steps n)
chosen_are steps answers n many = chosen_from answers 0 steps answers n refl many

-- the section of a namespace that has this name
pub section_named : (script : Draft) (own : List EventAnswer) (n : ℕ) (name : List ℕ) →
    slice_get (map (λ s. s.0) script.spaces) n ≡ Some name → section_at script own n ≡ section name own
section_named script own n name is = by (slice_get script.spaces n) (sym (slice_get-map (λ (s : List ℕ × Limits). s.0) script.spaces n) ∙ is)
  where
    by : (r : Option (List ℕ × Limits)) → option_map (λ s. s.0) r ≡ Some name → section_of r own ≡ section name own
    by None is = absurd (cc)
    by (Some s) is =
        let same : s.0 ≡ name = cc in
        ap (λ n. section n own) same

-- a section was put
pub section_on : (done all : List ℕ) (i : ℕ) (script : Draft) (answers : List EventAnswer) → i < length script.spaces →
    done ++ sections i (drop i script.spaces) script.steps answers ≡ all →
    (done ++ section_at script (answers_of script.steps answers i) i) ++ sections (i + 1) (drop (i + 1) script.spaces) script.steps answers ≡ all
unfolding sections
section_on done all i script answers high same =
    let other : List ℕ × Limits = ([], record { reserve = 0; soft = 0; hard = 0; max = 0 }) in
    let here = rw (next_of script.spaces i other high) at same in
    rw (slice_get-get_or script.spaces i other high)
    (append_assoc done (section (get_or script.spaces i other).0 (answers_of script.steps answers i)) (sections (i + 1) (drop (i + 1) script.spaces) script.steps answers) ∙ here)

-- a section was put, of a namespace whose answers stand apart
pub apart_on : (done all : List ℕ) (i : ℕ) (script : Draft) (own : List (List EventAnswer)) →
    length own ≡ length script.spaces → i < length own →
    done ++ sections_apart (drop i script.spaces) (drop i own) ≡ all →
    (done ++ section_at script (get_or own i []) i) ++ sections_apart (drop (i + 1) script.spaces) (drop (i + 1) own) ≡ all
unfolding sections_apart
apart_on done all i script own many high same =
    let other : List ℕ × Limits = ([], record { reserve = 0; soft = 0; hard = 0; max = 0 }) in
    let exists : i < length script.spaces = omega (arith, many, high) in
    let here = rw (next_of script.spaces i other exists, next_of own i [] high) at same in
    rw (slice_get-get_or script.spaces i other exists)
    (append_assoc done (section (get_or script.spaces i other).0 (get_or own i [])) (sections_apart (drop (i + 1) script.spaces) (drop (i + 1) own)) ∙ here)

pub apart_end : (text all : List ℕ) (i : ℕ) (spaces : List (List ℕ × Limits)) (own : List (List EventAnswer)) →
    length own ≡ length spaces → length own ≤ i →
    text ++ sections_apart (drop i spaces) (drop i own) ≡ all → text ≡ all
unfolding sections_apart
apart_end text all i spaces own many past same =
    let end : length spaces ≤ i = omega (arith, many, past) in
    let here = rw (drop_of_length-le spaces end) at same in
    sym (append-nil text) ∙ here

-- the sections of answers that stand apart are the text of the answers in the order of the steps
apart_from : (n : ℕ) (spaces : List (List ℕ × Limits)) (steps : List (ℕ × Line)) (answers : List EventAnswer)
    (own : List (List EventAnswer)) → length own ≡ length spaces →
    ((k : ℕ) → k < length spaces → get_or own k [] ≡ answers_of steps answers (n + k)) →
    sections_apart spaces own ≡ sections n spaces steps answers
unfolding sections_apart sections
apart_from n [] steps answers own many each = refl
apart_from n (space ∷ spaces) steps answers [] many each = absurd (omega (arith, many))
apart_from n (space ∷ spaces) steps answers (first ∷ own) many each =
    let here : first ≡ answers_of steps answers n = each 0 (omega arith) ∙ ap (answers_of steps answers) (omega arith) in
    let more = apart_from (n + 1) spaces steps answers own (omega (arith, many))
    (λ k low. each (suc k) (omega (arith, low)) ∙ ap (answers_of steps answers) (omega arith)) in
    λ j. section space.0 (here j) ++ more j

pub apart_are : (script : Draft) (answers : List EventAnswer) (own : List (List EventAnswer)) →
    length own ≡ length script.spaces → AreApart script answers own →
    sections_apart script.spaces own ≡ print script answers
apart_are script answers own many each =
    apart_from 0 script.spaces script.steps answers own many
    (λ k low. each k low ∙ ap (answers_of script.steps answers) (omega arith))

pub sections_end : (text all : List ℕ) (i : ℕ) (spaces : List (List ℕ × Limits)) (steps : List (ℕ × Line)) (answers : List EventAnswer) → length spaces ≤ i →
    text ++ sections i (drop i spaces) steps answers ≡ all → text ≡ all
unfolding sections
sections_end text all i spaces steps answers past same =
    let here = rw (drop_of_length-le spaces past) at same in
    sym (append-nil text) ∙ here
