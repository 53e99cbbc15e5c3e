-- A script in which no namespace comes or goes: each line is a step, and it is answered as one.

use Rattle.std.proofs.Common.{◌≡◌, ℕ, zero, suc, ◌+◌, ◌<◌, ◌≤◌, Bool, true, false, List, [], ◌∷◌, length, map}
use Rattle.std.proofs.Common.{refl, ap, sym, ◌∙◌}
use Rattle.std.proofs.Common.{subst, arith, inl, inr, length-set}
use Rattle.std.specs.Prelude.{Option, Some, None, IfSome, not, nat_eq, nat_lt, slice_get, take, if◌then◌else◌}
use Rattle.std.specs.List.{list_any}
use Rattle.std.specs.Option.{option_to_list}
use Rattle.std.proofs.lemmas.List.{length-map, length-take}
use Rattle.std.proofs.lemmas.Bool.{cases_eq, cases_lt, eq-eqb, ne_eqb, lt-ltb, le-ltb}
use Rattle.pf_base.specs.Limits.{Limits}
use Rattle.pf_base.specs.declared.admission.EventAnswer.{EventAnswer}
use Rattle.pf_base.specs.declared.admission.EventAnswer.TheVariants as told
use Rattle.pf_base.specs.declared.step.Answer.{Answer}
use Rattle.pf_base.specs.declared.step.Answer.TheVariants.{Done, NoMemory}
use Rattle.pf_base.specs.declared.step.Step.{Step}
use Rattle.pf_machine.specs.Houses.{House, Guest, Turn, Stepping, newcomer, step_turn, steps_in, answers_in}
use Rattle.pf_machine.specs.Events.{mine, kept, replies, keep_step, keep_reply}
use Rattle.pf_machine.specs.Machine.{step_of, may_want_memory}
use Rattle.pf_machine.specs.Runs.{run_of, lone}
use Rattle.pf_machine.specs.State.{opening}
use Rattle.pf_machine.specs.Numbered.{at, put_at}
use Rattle.pf_machine.proofs.NumberedLaws.{at-put_same, at-put_other}
use Rattle.pf_script.specs.Script.{Draft}
use Rattle.pf_script.specs.Sound.{AreGiven, IsGiven, given}
use Rattle.pf_script.specs.declared.line.Line.{Line}
use Rattle.pf_script.specs.declared.line.Line.TheVariants as lines
use Rattle.pf_script.specs.Places.{lines_of}
use Rattle.pf_play.specs.Houses.{Falls, Fall, IsHoused, alone, keep_place, said, events_of, first_house}
use Rattle.pf_play.specs.Played.{IsTold, IsToldAlone, comes_and_goes, is_step, kept_alone, replies_alone, steps_among}
use Rattle.pf_play.specs.Played.{IsRunFor, steps_of}
use Rattle.pf_play.specs.Plays.{IsPlayedFor, IsPlayedWhere}

-- everybody lives whose place is given
abbrev pub AllLive : House → Type 0
AllLive h = (n : ℕ) → n < length h.guests → (g : Guest) × (at h.guests n ≡ Some g)

-- a step of somebody who lives is answered, and everybody goes on living
pub record Stays (old : House) (a : EventAnswer) (new : House) : Type 0 where
  pub own : Answer
  pub answer : a ≡ told.Answer own
  pub live : AllLive new
  pub many : length new.guests ≡ length old.guests

module _ (old new : House) (n : ℕ) (s : Step) (a : EventAnswer) (live : AllLive old) (low : n < length old.guests) where
  abbrev g : Guest
  g = (live n low).0

  there : at old.guests n ≡ Some g
  there = (live n low).1

  abbrev after : Guest
  after = record { limits = g.limits; state = (step_of g.limits g.state s).state }

  put : AllLive (record old { guests = put_at old.guests n after })
  put k within = elim (cases_eq k n) [
    | inl own ↦ (
      after,
      subst (λ j. at (put_at old.guests n after) j ≡ Some after) (sym own) (at-put_same old.guests n (Some after) low),
    )
    | inr ne ↦
        let was = live k (omega (arith, within, length-set old.guests n (Some after))) in
        (was.0, at-put_other old.guests n k (Some after) ne ∙ was.1)
  ]

  pub stays : Falls old (Stepping n s) a new → Stays old a new
  stays falls = elim (falls.1).turn [
    | inl e ↦
        let turn = e ∙ ap (step_turn old n s) there in
        let answer : a ≡ told.Answer (Done (step_of g.limits g.state s).reply) = ap (λ (t : Turn). t.answer) turn in
        let house : falls.0 ≡ record old { guests = put_at old.guests n after } = ap (λ (t : Turn). t.house) turn in
        let same : new ≡ record old { guests = put_at old.guests n after } =
        falls.2 ∙ (λ i. keep_place (house i) (answer i)) in
        record {
          own = Done (step_of g.limits g.state s).reply;
          answer = answer;
          live = subst AllLive (sym same) put;
          many = ap (λ (h : House). length h.guests) same ∙ length-set old.guests n (Some after);
        }
    | inr wants ↦
        let same : new ≡ old = falls.2 ∙ (λ i. keep_place (wants.1 i) (wants.0.0 i)) in
        record {
          own = NoMemory;
          answer = wants.0.0;
          live = subst AllLive (sym same) live;
          many = ap (λ (h : House). length h.guests) same;
        }
  ]

-- so each of a list of steps
pub record AllStay (spaces : List (List ℕ × Limits)) (all : List (ℕ × Line)) (answers : List EventAnswer) : Type 0 where
  pub own : List Answer
  pub answer : answers ≡ map told.Answer own
  pub steps : steps_in (map (said spaces) all) answers ≡ steps_among all
  pub told : answers_in (map (said spaces) all) answers ≡ own
  pub many : length own ≡ length (steps_among all)

either : (b c : Bool) → (if b then true else c) ≡ false → (b ≡ false) × (c ≡ false)
either true c is = absurd (cc)
either false c is = (refl, is)

pub all_stay : (spaces : List (List ℕ × Limits)) (old new : House) (steps : List (ℕ × Line)) (answers : List EventAnswer) (m : ℕ) →
    Fall old (map (said spaces) steps) answers new → AllLive old → AreGiven (length old.guests) steps m →
    list_any (λ (e : ℕ × Line). not (is_step e.1)) steps ≡ false → AllStay spaces steps answers
all_stay spaces old new [] [] m falls live known only =
    record { own = []; answer = refl; steps = refl; told = refl; many = refl }
all_stay spaces old new [] (a ∷ answers) m falls live known only = absurd falls
all_stay spaces old new (e ∷ es) [] m falls live known only = absurd falls
all_stay spaces old new ((n, lines.Admit) ∷ es) (a ∷ answers) m falls live known only = absurd (cc)
all_stay spaces old new ((n, lines.Retire) ∷ es) (a ∷ answers) m falls live known only = absurd (cc)
all_stay spaces old new ((n, lines.Step s) ∷ es) (a ∷ answers) m falls live known only =
    let here = stays old falls.0 n s a live known.0 falls.1 in
    let rest = all_stay spaces falls.0 new es answers m falls.2 here.live
    (subst (λ k. AreGiven k es m) (sym here.many) known.1) only in
    record {
      own = here.own ∷ rest.own;
      answer = λ i. here.answer i ∷ rest.answer i;
      steps =
          ap (λ x. steps_in (Stepping n s ∷ map (said spaces) es) (x ∷ answers)) here.answer
          ∙ ap (λ xs. (n, s) ∷ xs) rest.steps;
      told =
          ap (λ x. answers_in (Stepping n s ∷ map (said spaces) es) (x ∷ answers)) here.answer
          ∙ ap (λ ys. here.own ∷ ys) rest.told;
      many = ap suc rest.many;
    }

-- those who are there from the start live
first_live : (ls : List Limits) (frames : ℕ) →
    AllLive (record { frames = frames; guests = map (λ l. Some (newcomer l)) ls })
first_live [] frames n low = absurd (omega arith)
first_live (l ∷ ls) frames zero low = (newcomer l, refl)
first_live (l ∷ ls) frames (suc n) low = first_live ls frames n (omega (arith, low))

-- what a run of all lines is, whether or not namespaces come and go
pub settled : (script : Draft) (answers : List EventAnswer) → IsHoused script answers →
    AreGiven script.opening script.steps (length script.spaces) → script.opening ≤ length script.spaces →
    IsPlayedFor script None answers
settled script answers housed known within = by (comes_and_goes script) refl
  where
    first : length (first_house script).guests ≡ script.opening
    first =
        length-map (map (λ s. s.1) (take script.opening script.spaces)) (λ limits. Some (newcomer limits))
        ∙ length-map (take script.opening script.spaces) (λ (s : List ℕ × Limits). s.1)
        ∙ omega (arith, length-take script.opening script.spaces, within)

    by : (b : Bool) → comes_and_goes script ≡ b → IsPlayedWhere b script None answers
    by true is = housed
    by false is =
        let stay = all_stay script.spaces (first_house script) housed.end script.steps answers (length script.spaces)
        housed.fall (first_live (map (λ s. s.1) (take script.opening script.spaces)) script.frames)
        (subst (λ k. AreGiven k script.steps (length script.spaces)) (sym first) known) is in (
          stay.own,
          stay.answer,
          (
            stay.many,
            λ n.
                subst (λ ys. IfSome (slice_get script.spaces n) (λ space. IsTold space.1 (steps_of script) ys n)) stay.told
                (subst (λ xs. IfSome (slice_get script.spaces n)
                (λ space. IsTold space.1 xs (answers_in (events_of script) answers) n)) stay.steps (housed.own n)),
          ),
        )

-- The lines of one name

-- the name's lines are given where the script's are: its place is 0 there
pub known_alone : (n c m : ℕ) (steps : List (ℕ × Line)) → AreGiven c steps m → n < m →
    AreGiven (if nat_lt n c then 1 else 0) (map (λ line. (0, line)) (lines_of steps n)) 1
known_alone n c m [] known low = ap (λ b. if b then 1 else 0) (lt-ltb n c (omega (arith, known, low)))
known_alone n c m ((k, line) ∷ es) known low = by line known.0 (known_alone n (given c line) m es known.1 low)
  where
    speaks : (l : Line) → ((j : ℕ) → IsGiven 1 l 0 × (given 1 l ≡ 1)) → k < c →
        AreGiven (if nat_lt n c then 1 else 0) (map (λ line. (0, line)) (lines_of es n)) 1 →
        AreGiven (if nat_lt n c then 1 else 0) (map (λ line. (0, line)) (if nat_eq k n then l ∷ lines_of es n else lines_of es n)) 1
    speaks l same place rest = elim (cases_eq k n) [
      | inl own ↦
          let within : nat_lt n c ≡ true = lt-ltb n c (omega (arith, own, place)) in
          rw (eq-eqb k n own, within) ((same 0).0, subst (λ d. AreGiven d (map (λ line. (0, line)) (lines_of es n)) 1) (sym (same 0).1) (rw within at rest))
      | inr ne ↦ rw (ne_eqb k n ne) rest
    ]

    by : (l : Line) → IsGiven c l k →
        AreGiven (if nat_lt n (given c l) then 1 else 0) (map (λ line. (0, line)) (lines_of es n)) 1 →
        AreGiven (if nat_lt n c then 1 else 0) (map (λ line. (0, line)) (if nat_eq k n then l ∷ lines_of es n else lines_of es n)) 1
    by (lines.Step s) place rest = speaks (lines.Step s) (λ j. (omega arith, refl)) place rest
    by lines.Retire place rest = speaks lines.Retire (λ j. (omega arith, refl)) place rest
    by lines.Admit place rest = elim (cases_eq k n) [
      | inl own ↦
          let past : nat_lt n c ≡ false = le-ltb n c (omega (arith, own, place)) in
          let then_there : nat_lt n (c + 1) ≡ true = lt-ltb n (c + 1) (omega (arith, own, place)) in
          rw (eq-eqb k n own, past) (refl, rw then_there at rest)
      | inr ne ↦ rw (ne_eqb k n ne) (subst (λ b. AreGiven (if b then 1 else 0) (map (λ line. (0, line)) (lines_of es n)) 1) (same_side ne place) rest)
    ]
      where
        same_side : (k ≡ n → ⊥) → k ≡ c → nat_lt n (c + 1) ≡ nat_lt n c
        same_side ne place = elim (cases_lt n c) [
          | inl h ↦ lt-ltb n (c + 1) (omega (arith, h)) ∙ sym (lt-ltb n c h)
          | inr h ↦ le-ltb n (c + 1) (omega (arith, h, ne, place)) ∙ sym (le-ltb n c h)
        ]

-- its steps are the script's of the name
alone_steps : (n : ℕ) (steps : List (ℕ × Line)) →
    steps_among (map (λ line. (0, line)) (lines_of steps n)) ≡ map (λ s. (0, s)) (mine (steps_among steps) n)
alone_steps n [] = refl
alone_steps n ((k, lines.Step s) ∷ es) =
    elim (nat_eq k n) as (λ b. steps_among (map (λ line. (0, line)) (if b then lines.Step s ∷ lines_of es n else lines_of es n))
    ≡ map (λ s. (0, s)) (if b then s ∷ mine (steps_among es) n else mine (steps_among es) n)) [
      | true ↦ ap (λ xs. (0, s) ∷ xs) (alone_steps n es)
      | false ↦ alone_steps n es
    ]
alone_steps n ((k, lines.Admit) ∷ es) =
    elim (nat_eq k n) as (λ b. steps_among (map (λ line. (0, line)) (if b then lines.Admit ∷ lines_of es n else lines_of es n))
    ≡ map (λ s. (0, s)) (mine (steps_among es) n)) [ true ↦ alone_steps n es | false ↦ alone_steps n es ]
alone_steps n ((k, lines.Retire) ∷ es) =
    elim (nat_eq k n) as (λ b. steps_among (map (λ line. (0, line)) (if b then lines.Retire ∷ lines_of es n else lines_of es n))
    ≡ map (λ s. (0, s)) (mine (steps_among es) n)) [ true ↦ alone_steps n es | false ↦ alone_steps n es ]

-- and nothing comes or goes among its lines either
alone_only : (n : ℕ) (steps : List (ℕ × Line)) → list_any (λ (e : ℕ × Line). not (is_step e.1)) steps ≡ false →
    list_any (λ (e : ℕ × Line). not (is_step e.1)) (map (λ line. (0, line)) (lines_of steps n)) ≡ false
alone_only n [] only = refl
alone_only n ((k, lines.Step s) ∷ es) only =
    elim (nat_eq k n) as (λ b. list_any (λ (e : ℕ × Line). not (is_step e.1))
    (map (λ line. (0, line)) (if b then lines.Step s ∷ lines_of es n else lines_of es n)) ≡ false) [
      | true ↦ alone_only n es only
      | false ↦ alone_only n es only
    ]
alone_only n ((k, lines.Admit) ∷ es) only = absurd (cc)
alone_only n ((k, lines.Retire) ∷ es) only = absurd (cc)

-- What one name is told, in the words of its lone machine

abbrev at_zero : List Step → List (ℕ × Step)
at_zero xs = map (λ s. (0, s)) xs

kept_zero : (xs : List Step) (answers : List Answer) → kept (at_zero xs) answers 0 ≡ kept_alone xs answers
kept_zero [] answers = refl
kept_zero (x ∷ xs) [] = refl
kept_zero (x ∷ xs) (a ∷ answers) = ap (keep_step a x) (kept_zero xs answers)

replies_zero : (xs : List Step) (answers : List Answer) → length answers ≡ length xs →
    replies (at_zero xs) answers 0 ≡ replies_alone answers
replies_zero [] [] many = refl
replies_zero [] (a ∷ answers) many = absurd (omega (arith, many))
replies_zero (x ∷ xs) [] many = absurd (omega (arith, many))
replies_zero (x ∷ xs) (a ∷ answers) many = ap (keep_reply a) (replies_zero xs answers (omega (arith, many)))

take_zero : (k : ℕ) (xs : List Step) → take k (at_zero xs) ≡ at_zero (take k xs)
take_zero zero [] = refl
take_zero zero (x ∷ xs) = refl
take_zero (suc k) [] = refl
take_zero (suc k) (x ∷ xs) = ap (λ (ys : List (ℕ × Step)). (0, x) ∷ ys) (take_zero k xs)

abbrev at_first : Step → Option (ℕ × Step)
at_first s = Some (0, s)

there_zero : (xs : List Step) (k : ℕ) (x : Step) → slice_get xs k ≡ Some x →
    ◌≡◌ {A = Option (ℕ × Step)} (slice_get (at_zero xs) k) (Some (0, x))
there_zero [] k x is = absurd (cc)
there_zero (y ∷ ys) zero x is = let same : y ≡ x = cc in ap at_first same
there_zero (y ∷ ys) (suc k) x is = there_zero ys k x is

lone_told : (c : Limits) (xs : List Step) (answers : List Answer) → length answers ≡ length xs →
    IsTold c (at_zero xs) answers 0 → IsToldAlone c xs answers
lone_told c xs answers many told = (
  sym (replies_zero xs answers many) ∙ told.0 ∙ ap (lone c) (kept_zero xs answers),
  λ place step at at'.
      ap (λ (ys : List Step). may_want_memory c (run_of c opening ys).state step)
      (sym (ap (λ (es : List (ℕ × Step)). kept es answers 0) (take_zero place xs) ∙ kept_zero (take place xs) answers))
      ∙ told.1 place step (there_zero xs place step at) at',
)

-- what a run of one name's lines is, whether or not namespaces come and go
pub settled_alone : (script : Draft) (n : ℕ) (answers : List EventAnswer) → IsHoused (alone script n) answers →
    AreGiven script.opening script.steps (length script.spaces) → n < length script.spaces →
    IsPlayedFor script (Some n) answers
settled_alone script n answers housed known low = by (comes_and_goes script) refl
  where
    one_taken : (b : Bool) (space : List ℕ × Limits) →
        length (map (λ limits. Some (newcomer limits)) (map (λ s. s.1) (take (if b then 1 else 0) (space ∷ [])))) ≡ (if b then 1 else 0)
    one_taken true space = refl
    one_taken false space = refl

    by : (b : Bool) → comes_and_goes script ≡ b → IsPlayedWhere b script (Some n) answers
    by true is = housed
    by false is = found (slice_get script.spaces n) refl
      where
        found : (r : Option (List ℕ × Limits)) → slice_get script.spaces n ≡ r →
            IsPlayedWhere false script (Some n) answers
        found None none = absurd (there script.spaces n low none)
          where
            there : (spaces : List (List ℕ × Limits)) (k : ℕ) → k < length spaces → slice_get spaces k ≡ None → ⊥
            there [] k low none = omega (arith, low)
            there (s ∷ ss) zero low none = cc
            there (s ∷ ss) (suc k) low none = there ss k (omega (arith, low)) none
        found (Some space) here =
            let spaces : (alone script n).spaces ≡ space ∷ [] = ap option_to_list here in
            let count : ℕ = if nat_lt n script.opening then 1 else 0 in
            let first : length (first_house (alone script n)).guests ≡ count =
            ap (λ (ss : List (List ℕ × Limits)). length (map (λ limits. Some (newcomer limits)) (map (λ s. s.1) (take count ss)))) spaces
            ∙ one_taken (nat_lt n script.opening) space in
            let stay = all_stay (alone script n).spaces (first_house (alone script n)) housed.end (alone script n).steps answers 1
            housed.fall
            (first_live (map (λ s. s.1) (take (alone script n).opening (alone script n).spaces)) script.frames)
            (subst (λ k. AreGiven k (alone script n).steps 1) (sym first)
            (known_alone n script.opening (length script.spaces) script.steps known low))
            (alone_only n script.steps is) in
            let steps = alone_steps n script.steps in
            let own_many : length stay.own ≡ length (mine (steps_of script) n) =
            stay.many ∙ ap (λ (xs : List (ℕ × Step)). length xs) steps ∙ length-map (mine (steps_of script) n) (λ s. (0, s)) in
            let own : IsTold space.1 (steps_in (events_of (alone script n)) answers) (answers_in (events_of (alone script n)) answers) 0 =
            subst (λ (ss : List (List ℕ × Limits)). IfSome (slice_get ss 0) (λ s. IsTold s.1 (steps_in (events_of (alone script n)) answers) (answers_in (events_of (alone script n)) answers) 0)) spaces (housed.own 0) in
            let told : IsTold space.1 (at_zero (mine (steps_of script) n)) stay.own 0 =
            subst (λ ys. IsTold space.1 (at_zero (mine (steps_of script) n)) ys 0) stay.told
            (subst (λ xs. IsTold space.1 xs (answers_in (events_of (alone script n)) answers) 0) (stay.steps ∙ steps) own) in (
              stay.own,
              stay.answer,
              (
                own_many,
                subst (λ r. IfSome r (λ s. IsToldAlone s.1 (mine (steps_of script) n) stay.own)) (sym here)
                    (lone_told space.1 (mine (steps_of script) n) stay.own own_many told),
              ),
            )

-- where no namespace comes or goes all names are there from the start
pub none_come : (n m : ℕ) (steps : List (ℕ × Line)) → list_any (λ (e : ℕ × Line). not (is_step e.1)) steps ≡ false →
    AreGiven n steps m → n ≡ m
none_come n m [] only known = known
none_come n m ((k, lines.Step s) ∷ es) only known = none_come n m es only known.1
none_come n m ((k, lines.Admit) ∷ es) only known = absurd (cc)
none_come n m ((k, lines.Retire) ∷ es) only known = absurd (cc)

-- and answers to the steps are answers to the lines
pub as_lines : (script : Draft) (only : Option ℕ) (own : List Answer) (answers : List EventAnswer) →
    comes_and_goes script ≡ false → IsRunFor script only own → answers ≡ map told.Answer own →
    IsPlayedFor script only answers
as_lines script only own answers none ran same =
    subst (λ b. IsPlayedWhere b script only answers) (sym none) (own, same, ran)
