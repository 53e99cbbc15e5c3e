-- The answers to each name's lines, apart from those of the others.

use Rattle.std.proofs.Common.{◌≡◌, ℕ, zero, suc, ◌+◌, ◌<◌, ◌≤◌, Bool, true, false, List, [], ◌∷◌, ◌++◌, length, take, drop, map}
use Rattle.std.proofs.Common.{get_or, inl, inr, refl, ap, subst, sym, ◌∙◌, arith, length-append}
use Rattle.std.specs.Prelude.{Option, Some, None, nat_eq, nat_le, if◌then◌else◌}
use Rattle.std.specs.List.{position_from}
use Rattle.std.proofs.lemmas.Bool.{eq-eqb, ne_eqb, cases_eq, cases_lt, leb-false}
use Rattle.std.specs.declared.alloc.Global.{Global}
use Rattle.std.specs.declared.vec.Vec.{Vec}
use Rattle.pf_base.specs.declared.admission.AdmitFault.TheVariants as admission
use Rattle.pf_base.specs.declared.admission.EventAnswer.{EventAnswer}
use Rattle.pf_base.specs.declared.admission.EventAnswer.TheVariants as told
use Rattle.pf_base.specs.declared.step.Answer.TheVariants.{Done, NoMemory}
use Rattle.pf_script.specs.declared.told.Told.{Told}
use Rattle.pf_script.specs.Sound.{first_stray}
use Rattle.pf_script.specs.Script.{Draft}
use Rattle.pf_script.specs.Places.{lines_of}
use Rattle.pf_script.specs.Text.{answers_of}
use Rattle.pf_script.specs.declared.line.Line.{Line}
use Rattle.pf_play.specs.Answered.{AreAllApart, Holds}
use Rattle.pf_play.specs.declared.answered.Answered.{Answered}
use Rattle.pf_play.specs.declared.answered.Answered.TheVariants as forms
use Rattle.pf_play.specs.Plays.{nomem_in, nomem_of}
use Rattle.pf_play.proofs.EngineLaws.{next_of}
use Rattle.std.proofs.lemmas.List.{take-append-drop}

-- One answer more

-- it stands behind those to its name's lines
pub apart_push : (es : List (ℕ × Line)) (e : ℕ × Line) (answers : List EventAnswer) (a : EventAnswer) (n : ℕ) →
    length answers ≡ length es →
    answers_of (es ++ e ∷ []) (answers ++ a ∷ []) n
    ≡ (if nat_eq e.0 n then answers_of es answers n ++ a ∷ [] else answers_of es answers n)
unfolding answers_of
apart_push [] e [] a n many = refl
apart_push [] e (b ∷ answers) a n many = absurd (omega (arith, many))
apart_push (f ∷ es) e [] a n many = absurd (omega (arith, many))
apart_push (f ∷ es) e (b ∷ answers) a n many =
    by (nat_eq f.0 n) (nat_eq e.0 n) (apart_push es e answers a n (omega (arith, many)))
  where
    by : (s t : Bool) →
        answers_of (es ++ e ∷ []) (answers ++ a ∷ []) n
        ≡ (if t then answers_of es answers n ++ a ∷ [] else answers_of es answers n)
        → (if s then b ∷ answers_of (es ++ e ∷ []) (answers ++ a ∷ []) n
        else answers_of (es ++ e ∷ []) (answers ++ a ∷ []) n)
        ≡ (if t then (if s then b ∷ answers_of es answers n else answers_of es answers n) ++ a ∷ []
        else (if s then b ∷ answers_of es answers n else answers_of es answers n))
    by true true more = ap (λ (r : List EventAnswer). b ∷ r) more
    by true false more = ap (λ (r : List EventAnswer). b ∷ r) more
    by false true more = more
    by false false more = more

-- there are as many as lines of the name
pub apart_many : (es : List (ℕ × Line)) (answers : List EventAnswer) (n : ℕ) → length answers ≡ length es →
    length (answers_of es answers n) ≡ length (lines_of es n)
unfolding answers_of
apart_many [] answers n many = refl
apart_many (e ∷ es) [] n many = absurd (omega (arith, many))
apart_many (e ∷ es) (a ∷ answers) n many =
    let more = apart_many es answers n (omega (arith, many)) in
    elim (nat_eq e.0 n) as (λ b. length (if b then a ∷ answers_of es answers n else answers_of es answers n)
    ≡ length (if b then e.1 ∷ lines_of es n else lines_of es n)) [
      | true ↦ ap suc more
      | false ↦ more
    ]

lines_append : (xs ys : List (ℕ × Line)) (n : ℕ) → lines_of (xs ++ ys) n ≡ lines_of xs n ++ lines_of ys n
lines_append [] ys n = refl
lines_append (x ∷ xs) ys n =
    let more = lines_append xs ys n in
    elim (nat_eq x.0 n) as (λ b. (if b then x.1 ∷ lines_of (xs ++ ys) n else lines_of (xs ++ ys) n)
    ≡ (if b then x.1 ∷ lines_of xs n else lines_of xs n) ++ lines_of ys n) [
      | true ↦ ap (λ (r : List Line). x.1 ∷ r) more
      | false ↦ more
    ]

-- a line of the name is left
pub lines_left : (es : List (ℕ × Line)) (k : ℕ) (e : ℕ × Line) → k < length es → e ≡ get_or es k e →
    length (lines_of (take k es) e.0) < length (lines_of es e.0)
lines_left es k e low is =
    let split : es ≡ take k es ++ e ∷ drop (k + 1) es
    = sym (take-append-drop k es) ∙ ap (λ (r : List (ℕ × Line)). take k es ++ r) (next_of es k e low is) in
    let lines : lines_of es e.0 ≡ lines_of (take k es) e.0 ++ e.1 ∷ lines_of (drop (k + 1) es) e.0
    = ap (λ (r : List (ℕ × Line)). lines_of r e.0) split
    ∙ lines_append (take k es) (e ∷ drop (k + 1) es) e.0
    ∙ ap (λ (b : Bool). lines_of (take k es) e.0
    ++ (if b then e.1 ∷ lines_of (drop (k + 1) es) e.0 else lines_of (drop (k + 1) es) e.0))
    (eq-eqb e.0 e.0 refl) in
    omega (
      arith,
      ap (λ (r : List Line). length r) lines,
      length-append (lines_of (take k es) e.0) (e.1 ∷ lines_of (drop (k + 1) es) e.0),
    )

-- so is room for its answer
pub room_left : (es : List (ℕ × Line)) (k : ℕ) (e : ℕ × Line) (answers : List EventAnswer) →
    k < length es → e ≡ get_or es k e → length answers ≡ length (take k es) →
    length (answers_of (take k es) answers e.0) < length (lines_of es e.0)
room_left es k e answers low is many =
    omega (arith, apart_many (take k es) answers e.0 many, lines_left es k e low is)

-- How many met want of memory

-- the sum of so many numbers
abbrev pub sum_below : (ℕ → ℕ) → ℕ → ℕ
sum_below f zero = 0
sum_below f (suc i) = sum_below f i + f i

-- one of these numbers is more by a
sum_past : (f g : ℕ → ℕ) (k a i : ℕ) → ((n : ℕ) → g n ≡ (if nat_eq k n then a + f n else f n)) → i ≤ k →
    sum_below g i ≡ sum_below f i
sum_past f g k a zero same low = refl
sum_past f g k a (suc i) same low =
    let other : nat_eq k i ≡ false = ne_eqb k i (λ is. omega (arith, is, low)) in
    let here : g i ≡ f i = same i ∙ ap (λ (b : Bool). if b then a + f i else f i) other in
    λ j. sum_past f g k a i same (omega (arith, low)) j + here j

sum_with : (f g : ℕ → ℕ) (k a i : ℕ) → ((n : ℕ) → g n ≡ (if nat_eq k n then a + f n else f n)) → k < i →
    sum_below g i ≡ a + sum_below f i
sum_with f g k a zero same low = absurd (omega (arith, low))
sum_with f g k a (suc i) same low = elim (cases_eq k i) [
  | inl is ↦
      let here : g i ≡ a + f i = same i ∙ ap (λ (b : Bool). if b then a + f i else f i) (eq-eqb k i is) in
      omega (arith, here, sum_past f g k a i same (omega (arith, is)))
  | inr ne ↦
      let here : g i ≡ f i = same i ∙ ap (λ (b : Bool). if b then a + f i else f i) (ne_eqb k i ne) in
      omega (arith, here, sum_with f g k a i same (omega (arith, ne, low)))
]

abbrev pub wanted : List (ℕ × Line) → List EventAnswer → ℕ → ℕ
wanted es answers n = nomem_of (answers_of es answers n)

wanted_more : (e : ℕ × Line) (es : List (ℕ × Line)) (a : EventAnswer) (answers : List EventAnswer) (n : ℕ) →
    wanted (e ∷ es) (a ∷ answers) n ≡ (if nat_eq e.0 n then nomem_in a + wanted es answers n else wanted es answers n)
unfolding answers_of
wanted_more e es a answers n =
    elim (nat_eq e.0 n) as (λ b. nomem_of (if b then a ∷ answers_of es answers n else answers_of es answers n)
    ≡ (if b then nomem_in a + nomem_of (answers_of es answers n) else nomem_of (answers_of es answers n))) [
      | true ↦ refl
      | false ↦ refl
    ]

none_below : (i : ℕ) (f : ℕ → ℕ) → ((n : ℕ) → f n ≡ 0) → sum_below f i ≡ 0
none_below zero f none = refl
none_below (suc i) f none = omega (arith, none_below i f none, none i)

-- of some names no more than of all
pub wanted_part : (i : ℕ) (es : List (ℕ × Line)) (answers : List EventAnswer) →
    sum_below (wanted es answers) i ≤ nomem_of answers
unfolding answers_of
wanted_part i [] answers = omega (arith, none_below i (wanted [] answers) (λ n. refl))
wanted_part i (e ∷ es) [] = omega (arith, none_below i (wanted (e ∷ es) []) (λ n. refl))
wanted_part i (e ∷ es) (a ∷ answers) =
    let more = wanted_part i es answers in
    elim (cases_lt e.0 i) [
      | inl low ↦ omega (
        arith,
        more,
        sum_with (wanted es answers) (wanted (e ∷ es) (a ∷ answers)) e.0 (nomem_in a) i
            (wanted_more e es a answers) low,
      )
      | inr past ↦ omega (
        arith,
        more,
        sum_past (wanted es answers) (wanted (e ∷ es) (a ∷ answers)) e.0 (nomem_in a) i
            (wanted_more e es a answers) past,
      )
    ]

-- of all names all, where each line's name is one of them
pub wanted_all : (m from : ℕ) (es : List (ℕ × Line)) (answers : List EventAnswer) →
    position_from (λ (e : ℕ × Line). nat_le m e.0) from es ≡ None → length answers ≡ length es →
    sum_below (wanted es answers) m ≡ nomem_of answers
unfolding answers_of
wanted_all m from [] [] none many = none_below m (wanted [] []) (λ n. refl)
wanted_all m from [] (a ∷ answers) none many = absurd (omega (arith, many))
wanted_all m from (e ∷ es) [] none many = absurd (omega (arith, many))
wanted_all m from (e ∷ es) (a ∷ answers) none many =
    by (nat_le m e.0) refl none (λ more. wanted_all m (from + 1) es answers more (omega (arith, many)))
  where
    by : (b : Bool) → nat_le m e.0 ≡ b →
        (if b then Some from else position_from (λ (e : ℕ × Line). nat_le m e.0) (from + 1) es) ≡ None →
        (position_from (λ (e : ℕ × Line). nat_le m e.0) (from + 1) es ≡ None →
        sum_below (wanted es answers) m ≡ nomem_of answers) →
        sum_below (wanted (e ∷ es) (a ∷ answers)) m ≡ nomem_of (a ∷ answers)
    by true is none rest = absurd (cc)
    by false is none rest =
        let low : e.0 < m = leb-false m e.0 is in
        sum_with (wanted es answers) (wanted (e ∷ es) (a ∷ answers)) e.0 (nomem_in a) m (wanted_more e es a answers) low
        ∙ ap (λ k. nomem_in a + k) (rest none)

one_at_most : (a : EventAnswer) → nomem_in a ≤ 1
one_at_most (told.Answer (Done reply)) = omega arith
one_at_most (told.Answer NoMemory) = omega arith
one_at_most told.Gone = omega arith
one_at_most (told.Admitted n) = omega arith
one_at_most (told.NotAdmitted (admission.NoRoom slack)) = omega arith
one_at_most (told.NotAdmitted admission.TooManyNamespaces) = omega arith
one_at_most (told.NotAdmitted admission.NoMemory) = omega arith
one_at_most told.Retired = omega arith
one_at_most (told.NotRetired fault) = omega arith

pub wanted_few : (answers : List EventAnswer) → nomem_of answers ≤ length answers
wanted_few [] = omega arith
wanted_few (a ∷ answers) = omega (arith, one_at_most a, wanted_few answers)

pub sum_same : (i : ℕ) (f g : ℕ → ℕ) → ((n : ℕ) → n < i → f n ≡ g n) → sum_below f i ≡ sum_below g i
sum_same zero f g same = refl
sum_same (suc i) f g same =
    let rest = sum_same i f g (λ n low. same n (omega (arith, low))) in
    let here = same i (omega arith) in
    λ j. rest j + here j

-- so many of the names' answers as they are kept are so many of these
counted : (script : Draft) (answers : List EventAnswer) (own : List (List EventAnswer)) (i : ℕ) →
    AreAllApart script answers own → i ≤ length script.spaces →
    sum_below (λ n. nomem_of (get_or own n [])) i ≡ sum_below (wanted script.steps answers) i
counted script answers own i apart past =
    sum_same i (λ n. nomem_of (get_or own n [])) (wanted script.steps answers)
    (λ n low. ap nomem_of (apart.2 n (omega (arith, low, past))))

-- there are no more than lines
pub counted_fits : (script : Draft) (answers : List EventAnswer) (own : List (List EventAnswer)) (i : ℕ) →
    AreAllApart script answers own → i < length script.spaces →
    sum_below (λ n. nomem_of (get_or own n [])) i + nomem_of (get_or own i []) ≤ length script.steps
counted_fits script answers own i apart low =
    let part : sum_below (λ n. nomem_of (get_or own n [])) i + nomem_of (get_or own i [])
    ≡ sum_below (wanted script.steps answers) (suc i)
    = counted script answers own (suc i) apart (omega (arith, low)) in
    omega (arith, part, wanted_part (suc i) script.steps answers, wanted_few answers, apart.1)

pub counted_all : (script : Draft) (answers : List EventAnswer) (own : List (List EventAnswer)) (i : ℕ) →
    AreAllApart script answers own → first_stray (length script.spaces) script.steps ≡ None →
    i ≡ length script.spaces → sum_below (λ n. nomem_of (get_or own n [])) i ≡ nomem_of answers
counted_all script answers own i apart exist all =
    ap (λ k. sum_below (λ n. nomem_of (get_or own n [])) k) all
    ∙ counted script answers own (length script.spaces) apart (omega arith)
    ∙ wanted_all (length script.spaces) 0 script.steps answers exist apart.1

-- Lists of lists

-- what holds of each holds with one more
pub each_push : {X : Type 0} (P : ℕ → X → Type 0) (xs : List X) (x : X) →
    ((n : ℕ) (d : X) → n < length xs → P n (get_or xs n d)) → P (length xs) x →
    (n : ℕ) (d : X) → n < length (xs ++ x ∷ []) → P n (get_or (xs ++ x ∷ []) n d)
each_push P [] x each last zero d low = last
each_push P [] x each last (suc n) d low = absurd (omega (arith, low))
each_push P (y ∷ ys) x each last zero d low = each 0 y (omega arith)
each_push P (y ∷ ys) x each last (suc n) d low =
    each_push (λ k. P (suc k)) ys x (λ k d within. each (suc k) d (omega (arith, within))) last n d (omega (arith, low))

-- the lists that are kept
pub lists_are : (own : List (Vec Told Global)) (f : ℕ → List EventAnswer) →
    ((n : ℕ) (d : Vec Told Global) → n < length own → (get_or own n d).items ≡ f n) →
    (n : ℕ) → n < length own → get_or (map (λ (v : Vec Told Global). v.items) own) n [] ≡ f n
lists_are [] f each n low = absurd (omega (arith, low))
lists_are (v ∷ vs) f each zero low = each 0 v low
lists_are (v ∷ vs) f each (suc n) low =
    lists_are vs (λ k. f (suc k)) (λ k d within. each (suc k) d (omega (arith, within))) n (omega (arith, low))

-- a form that keeps all is that of answers to all lines
pub all_held : (script : Draft) (kept : Answered) (own : Vec (Vec Told Global) Global) (only : Option ℕ)
    (answers : List EventAnswer) → kept ≡ forms.All own → Holds script kept only answers →
    (only ≡ None) × AreAllApart script answers (map (λ (v : Vec Told Global). v.items) own.items)
all_held script kept own None answers is holds = (refl, subst (λ k. Holds script k None answers) is holds)
all_held script kept own (Some n) answers is holds = absurd (subst (λ k. Holds script k (Some n) answers) is holds)
