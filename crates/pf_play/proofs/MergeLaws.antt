-- The answers that each namespace has alone, as answers to all lines of the script.

use Rattle.std.proofs.Common.{◌≡◌, ℕ, zero, suc, ◌+◌, ◌<◌, Bool, true, false, List, [], ◌∷◌, length, map, take}
use Rattle.std.proofs.Common.{get_or, inl, inr, Option, Some, None, refl, ap, subst, sym, ◌∙◌, arith}
use Rattle.std.specs.Prelude.{nat_eq, nat_le, not, slice_get, IfSome, if◌then◌else◌}
use Rattle.std.specs.List.{list_any, position_from}
use Rattle.std.proofs.lemmas.Bool.{eq-eqb, ne_eqb, cases_eq, cases_lt, leb-false}
use Rattle.std.proofs.lemmas.List.{length-map}
use Rattle.pf_base.specs.Limits.{Limits}
use Rattle.pf_base.specs.declared.admission.EventAnswer.{EventAnswer}
use Rattle.pf_base.specs.declared.admission.EventAnswer.TheVariants as told
use Rattle.pf_base.specs.declared.step.Step.{Step}
use Rattle.pf_base.specs.declared.step.Reply.{Reply}
use Rattle.pf_base.specs.declared.step.Answer.{Answer}
use Rattle.pf_base.specs.declared.step.Answer.TheVariants.{NoMemory}
use Rattle.pf_machine.specs.Machine.{may_want_memory}
use Rattle.pf_machine.specs.State.{opening}
use Rattle.pf_machine.specs.Events.{mine, kept, replies, keep_step, keep_reply}
use Rattle.pf_machine.specs.Runs.{run_of, lone}
use Rattle.pf_script.specs.Script.{Draft}
use Rattle.pf_script.specs.Sound.{first_stray}
use Rattle.pf_script.specs.Text.{AreApart, answers_of}
use Rattle.pf_script.specs.declared.line.Line.{Line}
use Rattle.pf_script.specs.declared.line.Line.TheVariants as lines
use Rattle.pf_play.proofs.StayLaws.{as_lines}
use Rattle.pf_play.specs.Played.{IsPlayed, IsPlayedAlone, IsTold, IsToldAlone, kept_alone}
use Rattle.pf_play.specs.Played.{comes_and_goes, is_step, replies_alone, steps_among, steps_of}
use Rattle.pf_play.specs.Plays.{IsPlayedFor}
use Rattle.pf_play.specs.Workers.{AreToldAlone}

pub some_low : {X : Type 0} (xs : List X) (n : ℕ) (x : X) → slice_get xs n ≡ Some x → n < length xs
some_low [] n x is = absurd (cc)
some_low (y ∷ xs) zero x is = omega arith
some_low (y ∷ xs) (suc n) x is = let less = some_low xs n x is in omega arith

pub no_length : {X : Type 0} (xs : List X) → length xs ≡ 0 → xs ≡ []
no_length [] none = refl
no_length (x ∷ xs) none = absurd (omega (arith, none))

-- the answers to the steps of namespace n
abbrev pub own_of : List (ℕ × Step) → List Answer → ℕ → List Answer
own_of [] answers n = []
own_of (e ∷ es) [] n = []
own_of (e ∷ es) (a ∷ answers) n = if nat_eq e.0 n then a ∷ own_of es answers n else own_of es answers n

-- What is said of a namespace in a run of all is what its own answers say

own_replies : (es : List (ℕ × Step)) (answers : List Answer) (n : ℕ) →
    replies es answers n ≡ replies_alone (own_of es answers n)
own_replies [] answers n = refl
own_replies (e ∷ es) [] n = refl
own_replies (e ∷ es) (a ∷ answers) n =
    let more = own_replies es answers n in
    elim (nat_eq e.0 n) as
    (λ b. (if b then keep_reply a (replies es answers n) else replies es answers n) ≡ replies_alone
    (if b then a ∷ own_of es answers n else own_of es answers n)) [
      | true ↦ ap (λ (r : List Reply). keep_reply a r) more
      | false ↦ more
    ]

own_kept : (es : List (ℕ × Step)) (answers : List Answer) (n : ℕ) →
    kept es answers n ≡ kept_alone (mine es n) (own_of es answers n)
own_kept [] answers n = refl
own_kept (e ∷ es) [] n = by (nat_eq e.0 n)
  where
    none : (xs : List Step) → [] ≡ kept_alone xs []
    none [] = refl
    none (x ∷ xs) = refl

    by : (b : Bool) → [] ≡ kept_alone (if b then e.1 ∷ mine es n else mine es n) []
    by true = refl
    by false = none (mine es n)
own_kept (e ∷ es) (a ∷ answers) n =
    let more = own_kept es answers n in
    elim (nat_eq e.0 n) as
    (λ b. (if b then keep_step a e.1 (kept es answers n) else kept es answers n) ≡ kept_alone
    (if b then e.1 ∷ mine es n else mine es n) (if b then a ∷ own_of es answers n else own_of es answers n)) [
      | true ↦ ap (λ (r : List Step). keep_step a e.1 r) more
      | false ↦ more
    ]

-- a step and its answer stand at one place among these, and these steps were kept before it
record StandsAt (xs : List Step) (own : List Answer) (before : List Step) (step : Step) (a : Answer) : Type 0 where
  place : ℕ
  asked : slice_get xs place ≡ Some step
  told : slice_get own place ≡ Some a
  kept_before : kept_alone (take place xs) own ≡ before

-- so does a step of n with its answer among n's own
own_place : (es : List (ℕ × Step)) (answers : List Answer) (n p : ℕ) (step : Step) (a : Answer) →
    slice_get es p ≡ Some (n, step) → slice_get answers p ≡ Some a
    → StandsAt (mine es n) (own_of es answers n) (kept (take p es) answers n) step a
own_place [] answers n p step a is is' = absurd (cc)
own_place (e ∷ es) [] n p step a is is' = absurd (cc)
own_place (e ∷ es) (b ∷ answers) n zero step a is is' =
    let same : e ≡ (n, step) = cc in
    let here : e.1 ≡ step = ap (λ (x : ℕ × Step). x.1) same in
    let answered : b ≡ a = cc in
    subst (λ t. StandsAt (if t then e.1 ∷ mine es n else mine es n)
    (if t then b ∷ own_of es answers n else own_of es answers n) [] step a)
    (sym (eq-eqb e.0 n (ap (λ (x : ℕ × Step). x.0) same)))
    (record { place = 0; asked = ap Some here; told = ap Some answered; kept_before = refl })
own_place (e ∷ es) (b ∷ answers) n (suc p) step a is is' = by (nat_eq e.0 n) (own_place es answers n p step a is is')
  where
    by : (t : Bool) → StandsAt (mine es n) (own_of es answers n) (kept (take p es) answers n) step a
        → StandsAt (if t then e.1 ∷ mine es n else mine es n)
        (if t then b ∷ own_of es answers n else own_of es answers n)
        (if t then keep_step b e.1 (kept (take p es) answers n) else kept (take p es) answers n) step a
    by true more = record {
      place = suc more.place;
      asked = more.asked;
      told = more.told;
      kept_before = ap (λ (r : List Step). keep_step b e.1 r) more.kept_before;
    }
    by false more = more

-- so what is told to n is what it is told alone
own_told : (c : Limits) (es : List (ℕ × Step)) (answers : List Answer) (n : ℕ) →
    IsToldAlone c (mine es n) (own_of es answers n) → IsTold c es answers n
own_told c es answers n alone = (
  own_replies es answers n ∙ alone.0 ∙ ap (λ (xs : List Step). lone c xs) (sym (own_kept es answers n)),
  λ p step is is'.
      let there = own_place es answers n p step NoMemory is is' in
      ap (λ (xs : List Step). may_want_memory c (run_of c opening xs).state step) (sym there.kept_before)
      ∙ alone.1 there.place step there.asked there.told,
)

-- Where no namespace comes or goes each line is a step

pub many_steps : (es : List (ℕ × Line)) → list_any (λ (e : ℕ × Line). not (is_step e.1)) es ≡ false →
    length (steps_among es) ≡ length es
many_steps [] only = refl
many_steps ((n, lines.Step s) ∷ es) only = ap suc (many_steps es only)
many_steps ((n, lines.Admit) ∷ es) only = absurd (cc)
many_steps ((n, lines.Retire) ∷ es) only = absurd (cc)

-- Each line's answer is the next of its namespace's own

-- these answers to the steps are each namespace's own, for the first so many namespaces
pub record Woven (m : ℕ) (es : List (ℕ × Step)) (own : ℕ → List Answer) : Type 0 where
  pub answers : List Answer
  pub many : length answers ≡ length es
  pub each : (n : ℕ) → n < m → own_of es answers n ≡ own n

weave_on : (m : ℕ) (k : ℕ) (s : Step) (es : List (ℕ × Step)) (own : ℕ → List Answer) (a : Answer) (more : List Answer) →
    own k ≡ a ∷ more → Woven m es (λ n. if nat_eq k n then more else own n) → Woven m ((k, s) ∷ es) own
weave_on m k s es own a more front rest = record {
  answers = a ∷ rest.answers;
  many = ap suc rest.many;
  each = λ n low. elim (cases_eq k n) [
    | inl is ↦
        let same : nat_eq k n ≡ true = eq-eqb k n is in
        let behind : own_of es rest.answers n ≡ more
        = rest.each n low ∙ ap (λ (b : Bool). if b then more else own n) same in
        ap (λ (b : Bool). if b then a ∷ own_of es rest.answers n else own_of es rest.answers n) same
        ∙ ap (λ (r : List Answer). a ∷ r) behind ∙ sym front ∙ ap own is
    | inr ne ↦
        let other : nat_eq k n ≡ false = ne_eqb k n ne in
        ap (λ (b : Bool). if b then a ∷ own_of es rest.answers n else own_of es rest.answers n) other
        ∙ rest.each n low ∙ ap (λ (b : Bool). if b then more else own n) other
  ];
}

-- each line's namespace is one of the first so many
abbrev Within : ℕ → ℕ → List (ℕ × Line) → Type 0
Within m from es = position_from (λ (e : ℕ × Line). nat_le m e.0) from es ≡ None

abbrev Weaves : ℕ → ℕ → List (ℕ × Line) → Type 0
Weaves m from es = (own : ℕ → List Answer) → Within m from es →
    ((n : ℕ) → n < m → length (own n) ≡ length (mine (steps_among es) n)) → Woven m (steps_among es) own

weave : (m from : ℕ) (es : List (ℕ × Line)) (own : ℕ → List Answer) →
    list_any (λ (e : ℕ × Line). not (is_step e.1)) es ≡ false → Within m from es →
    ((n : ℕ) → n < m → length (own n) ≡ length (mine (steps_among es) n)) →
    Woven m (steps_among es) own
weave m from [] own only none each =
    record { answers = []; many = refl; each = λ n low. sym (no_length (own n) (each n low)) }
weave m from ((k, lines.Admit) ∷ es) own only none each = absurd (cc)
weave m from ((k, lines.Retire) ∷ es) own only none each = absurd (cc)
weave m from ((k, lines.Step s) ∷ es) own only none each =
    by (nat_le m k) refl none (λ own' within each'. weave m (from + 1) es own' only within each')
  where
    left : ℕ → List Step
    left n = mine (steps_among es) n

    own_many : (n : ℕ) (b : Bool) → nat_eq k n ≡ b → n < m → length (own n) ≡ length (if b then s ∷ left n else left n)
    own_many n b is low = each n low ∙ ap (λ (b : Bool). length (if b then s ∷ left n else left n)) is

    found : k < m → Within m (from + 1) es → Weaves m (from + 1) es → (first : List Answer) → own k ≡ first → Woven m ((k, s) ∷ steps_among es) own
    found low none rest [] front = absurd (omega (
      arith,
      ap (λ (r : List Answer). length r) front,
      own_many k true (eq-eqb k k refl) low,
    ))
    found low none rest (a ∷ more) front =
        weave_on m k s (steps_among es) own a more front
        (rest (λ n. if nat_eq k n then more else own n) none (λ n within. elim (cases_eq k n) [
          | inl is ↦
              let same : nat_eq k n ≡ true = eq-eqb k n is in
              let first : length (own n) ≡ length (a ∷ more)
              = ap (λ j. length (own j)) (sym is) ∙ ap (λ (r : List Answer). length r) front in
              ap (λ (b : Bool). length (if b then more else own n)) same
              ∙ omega (arith, own_many n true same within, first)
          | inr ne ↦
              let other : nat_eq k n ≡ false = ne_eqb k n ne in
              ap (λ (b : Bool). length (if b then more else own n)) other ∙ own_many n false other within
        ]))

    by : (b : Bool) → nat_le m k ≡ b →
        (if b then Some from else position_from (λ (e : ℕ × Line). nat_le m e.0) (from + 1) es) ≡ None → Weaves m (from + 1) es →
        Woven m ((k, s) ∷ steps_among es) own
    by true is none rest = absurd (cc)
    by false is none rest = found (leb-false m k is) none rest (own k) refl

-- answers to steps are those to the lines, which are steps
told_apart : (es : List (ℕ × Line)) (answers : List Answer) (n : ℕ) →
    list_any (λ (e : ℕ × Line). not (is_step e.1)) es ≡ false →
    answers_of es (map told.Answer answers) n ≡ map told.Answer (own_of (steps_among es) answers n)
unfolding answers_of
told_apart [] answers n only = refl
told_apart ((k, lines.Step s) ∷ es) [] n only = refl
told_apart ((k, lines.Step s) ∷ es) (a ∷ answers) n only =
    let more = told_apart es answers n only in
    elim (nat_eq k n) as (λ b. (if b then told.Answer a ∷ answers_of es (map told.Answer answers) n
    else answers_of es (map told.Answer answers) n)
    ≡ map told.Answer (if b then a ∷ own_of (steps_among es) answers n else own_of (steps_among es) answers n)) [
      | true ↦ ap (λ (r : List EventAnswer). told.Answer a ∷ r) more
      | false ↦ more
    ]
told_apart ((k, lines.Admit) ∷ es) answers n only = absurd (cc)
told_apart ((k, lines.Retire) ∷ es) answers n only = absurd (cc)

-- what each namespace is told alone, as answers to all lines
module _ (script : Draft) (own : List (List EventAnswer)) (only : comes_and_goes script ≡ false)
    (exist : first_stray (length script.spaces) script.steps ≡ None)
    (alone : (n : ℕ) → n < length script.spaces → AreToldAlone script n (get_or own n [])) where
  pub at_place : (n : ℕ) → (xs : List Answer) × (n < length script.spaces → (get_or own n [] ≡ map told.Answer xs) × IsPlayedAlone script n xs)
  at_place n = elim (cases_lt n (length script.spaces)) [
    | inl low ↦ let here = alone n low in (here.0, λ _. (here.1, here.2))
    | inr past ↦ ([], λ low. absurd (omega (arith, low, past)))
  ]

  pub woven : Woven (length script.spaces) (steps_of script) (λ n. (at_place n).0)
  woven = weave (length script.spaces) 0 script.steps (λ n. (at_place n).0) only exist (λ n low. ((at_place n).1 low).1.0)

  told_each : (n : ℕ) (r : Option (List ℕ × Limits)) → slice_get script.spaces n ≡ r →
      IfSome r (λ space. IsTold space.1 (steps_of script) woven.answers n)
  told_each n None is = tt
  told_each n (Some space) is =
      let low = some_low script.spaces n space is in
      let here = rw is at ((at_place n).1 low).1.1 in
      own_told space.1 (steps_of script) woven.answers n
      (subst (λ (r : List Answer). IsToldAlone space.1 (mine (steps_of script) n) r) (sym (woven.each n low)) here)

  pub all_told : IsPlayed script woven.answers
  all_told = (woven.many, λ n. told_each n (slice_get script.spaces n) refl)

  pub all_run : (answers : List EventAnswer) × (length answers ≡ length script.steps) × AreApart script answers own
      × IsPlayedFor script None answers
  all_run =
      let answers : List EventAnswer = map told.Answer woven.answers in (
        answers,
        length-map woven.answers (λ a. told.Answer a) ∙ woven.many ∙ many_steps script.steps only,
        λ n low.
            ((at_place n).1 low).0 ∙ ap (λ (r : List Answer). map told.Answer r) (sym (woven.each n low))
            ∙ sym (told_apart script.steps woven.answers n only),
        as_lines script None woven.answers answers only all_told refl,
      )
