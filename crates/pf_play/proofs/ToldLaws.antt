-- What one name is told of a script's events: from its admission to its retirement, what its lone machine is.

use Rattle.std.proofs.Common.{◌≡◌, ◌≢◌, ℕ, zero, suc, ◌+◌, ◌<◌, ◌≤◌, true, List, [], ◌∷◌, ◌++◌, length}
use Rattle.std.proofs.Common.{refl, ap, sym, ◌∙◌}
use Rattle.std.proofs.Common.{subst, arith, inl, inr, length-append, length-set, append-nil}
use Rattle.std.specs.Prelude.{Option, Some, None, map, slice_get}
use Rattle.std.proofs.lemmas.Bool.{cases_eq, cases_lt}
use Rattle.pf_base.specs.Limits.{Limits}
use Rattle.pf_base.specs.declared.admission.AdmitFault.{AdmitFault}
use Rattle.pf_base.specs.declared.admission.AdmitFault.TheVariants as admission
use Rattle.pf_base.specs.declared.admission.RetireFault.{RetireFault}
use Rattle.pf_base.specs.declared.admission.EventAnswer.{EventAnswer}
use Rattle.pf_base.specs.declared.admission.EventAnswer.TheVariants as told
use Rattle.pf_base.specs.declared.step.Answer.{Answer}
use Rattle.pf_base.specs.declared.step.Answer.TheVariants.{Done, NoMemory}
use Rattle.pf_base.specs.declared.step.Step.{Step}
use Rattle.pf_machine.specs.Events.{kept, replies}
use Rattle.pf_machine.specs.Houses.{House, Guest, Event, Turn, Stepping, Admitting, Retiring, MayWant}
use Rattle.pf_machine.specs.Houses.{IsLeft, newcomer}
use Rattle.pf_machine.specs.Houses.{step_turn, admit_turn, retire_turn, turn_of, admit_fault, retire_fault, given}
use Rattle.pf_machine.specs.Houses.{Wants}
use Rattle.pf_machine.specs.Houses.{step_in, answer_in, steps_in, answers_in}
use Rattle.pf_machine.specs.Machine.{Answers, step_of, may_want_memory}
use Rattle.pf_machine.specs.Numbered.{at, put_at, clear_at}
use Rattle.pf_machine.specs.Queue.{Segment}
use Rattle.pf_machine.specs.Runs.{Run, run_of}
use Rattle.pf_machine.specs.State.{State, opening}
use Rattle.pf_machine.proofs.EventLaws.{told-own, told-other}
use Rattle.pf_machine.proofs.NumberedLaws.{at-put_same, at-put_other, at_past, at_within, at-push_old, at-push_new}
use Rattle.pf_play.specs.Houses.{keep_place, Falls, Fall}
use Rattle.pf_hub.specs.Isolation.{NoWantWithoutNeed}
use Rattle.pf_hub.proofs.NeedLemmas.{needed_next}

-- One event more

pub fall_more : (old mid new : House) (es : List Event) (answers : List EventAnswer) (e : Event) (a : EventAnswer)
    → Fall old es answers mid → Falls mid e a new → Fall old (es ++ e ∷ []) (answers ++ a ∷ []) new
fall_more old mid new [] [] e a so next = (new, subst (λ (h : House). Falls h e a new) so next, refl)
fall_more old mid new [] (b ∷ answers) e a so next = absurd so
fall_more old mid new (x ∷ es) [] e a so next = absurd so
fall_more old mid new (x ∷ es) (b ∷ answers) e a so next = (so.0, so.1, fall_more so.0 mid new es answers e a so.2 next)

pub fall_many : (old new : House) (es : List Event) (answers : List EventAnswer) → Fall old es answers new
    → length answers ≡ length es
fall_many old new [] [] so = refl
fall_many old new [] (a ∷ answers) so = absurd so
fall_many old new (e ∷ es) [] so = absurd so
fall_many old new (e ∷ es) (a ∷ answers) so = let rest = fall_many so.0 new es answers so.2 in omega (arith, rest)

-- Steps that were answered

step_apart : (e : Event) (a : EventAnswer) (xs ys : List (ℕ × Step)) → step_in e a (xs ++ ys) ≡ step_in e a xs ++ ys
step_apart (Stepping n s) (told.Answer x) xs ys = refl
step_apart (Stepping n s) told.Gone xs ys = refl
step_apart (Stepping n s) (told.Admitted m) xs ys = refl
step_apart (Stepping n s) (told.NotAdmitted fault) xs ys = refl
step_apart (Stepping n s) told.Retired xs ys = refl
step_apart (Stepping n s) (told.NotRetired fault) xs ys = refl
step_apart (Admitting limits) a xs ys = refl
step_apart (Retiring n) a xs ys = refl

answer_apart : (e : Event) (a : EventAnswer) (xs ys : List Answer) → answer_in e a (xs ++ ys) ≡ answer_in e a xs ++ ys
answer_apart (Stepping n s) (told.Answer x) xs ys = refl
answer_apart (Stepping n s) told.Gone xs ys = refl
answer_apart (Stepping n s) (told.Admitted m) xs ys = refl
answer_apart (Stepping n s) (told.NotAdmitted fault) xs ys = refl
answer_apart (Stepping n s) told.Retired xs ys = refl
answer_apart (Stepping n s) (told.NotRetired fault) xs ys = refl
answer_apart (Admitting limits) a xs ys = refl
answer_apart (Retiring n) a xs ys = refl

pub steps_more : (es : List Event) (answers : List EventAnswer) (e : Event) (a : EventAnswer) →
    length answers ≡ length es →
    steps_in (es ++ e ∷ []) (answers ++ a ∷ []) ≡ steps_in es answers ++ step_in e a []
steps_more [] [] e a many = refl
steps_more [] (b ∷ answers) e a many = absurd (omega (arith, many))
steps_more (x ∷ es) [] e a many = absurd (omega (arith, many))
steps_more (x ∷ es) (b ∷ answers) e a many =
    ap (step_in x b) (steps_more es answers e a (omega (arith, many))) ∙ step_apart x b (steps_in es answers) (step_in e a [])

pub answers_more : (es : List Event) (answers : List EventAnswer) (e : Event) (a : EventAnswer) →
    length answers ≡ length es →
    answers_in (es ++ e ∷ []) (answers ++ a ∷ []) ≡ answers_in es answers ++ answer_in e a []
answers_more [] [] e a many = refl
answers_more [] (b ∷ answers) e a many = absurd (omega (arith, many))
answers_more (x ∷ es) [] e a many = absurd (omega (arith, many))
answers_more (x ∷ es) (b ∷ answers) e a many =
    ap (answer_in x b) (answers_more es answers e a (omega (arith, many))) ∙ answer_apart x b (answers_in es answers) (answer_in e a [])

one_each : (e : Event) (a : EventAnswer) (xs : List (ℕ × Step)) (ys : List Answer) → length ys ≡ length xs →
    length (answer_in e a ys) ≡ length (step_in e a xs)
one_each (Stepping n s) (told.Answer x) xs ys many = ap suc many
one_each (Stepping n s) told.Gone xs ys many = many
one_each (Stepping n s) (told.Admitted m) xs ys many = many
one_each (Stepping n s) (told.NotAdmitted fault) xs ys many = many
one_each (Stepping n s) told.Retired xs ys many = many
one_each (Stepping n s) (told.NotRetired fault) xs ys many = many
one_each (Admitting limits) a xs ys many = many
one_each (Retiring n) a xs ys many = many

pub as_many : (es : List Event) (answers : List EventAnswer) →
    length (answers_in es answers) ≡ length (steps_in es answers)
as_many [] answers = refl
as_many (e ∷ es) [] = refl
as_many (e ∷ es) (a ∷ answers) = one_each e a (steps_in es answers) (answers_in es answers) (as_many es answers)

-- One name

-- its lone machine was told the same, and stands where its guest does; one that isn't given yet has done nothing
pub record Tells (c : Limits) (n : ℕ) (steps : List (ℕ × Step)) (answers : List Answer) (house : House) : Type 0 where
  pub end : State Segment ℕ
  pub ran : run_of c opening (kept steps answers n) ≡ record { state = end; replies = replies steps answers n }
  pub here : IsLeft (at house.guests n) (record { limits = c; state = end })
  pub unborn : length house.guests ≤ n → end ≡ opening
  pub needed : NoWantWithoutNeed c opening steps answers n

module _ (c : Limits) (n : ℕ) (steps : List (ℕ × Step)) (answers : List Answer) (many : length answers ≡ length steps)
    (old new : House) (before : Tells c n steps answers old) where
  -- nothing is done to it
  kept_as_it_was : at new.guests n ≡ at old.guests n → (length new.guests ≤ n → length old.guests ≤ n) →
      Tells c n steps answers new
  kept_as_it_was same past = record {
    end = before.end;
    ran = before.ran;
    here = subst (λ o. IsLeft o (record { limits = c; state = before.end })) (sym same) before.here;
    unborn = λ h. before.unborn (past h);
    needed = before.needed;
  }

  -- it goes
  goes : at new.guests n ≡ None → (length new.guests ≤ n → length old.guests ≤ n) → Tells c n steps answers new
  goes none past = record {
    end = before.end;
    ran = before.ran;
    here = subst (λ o. IsLeft o (record { limits = c; state = before.end })) (sym none) tt;
    unborn = λ h. before.unborn (past h);
    needed = before.needed;
  }

  -- it comes
  comes : length old.guests ≡ n → n < length new.guests → at new.guests n ≡ Some (newcomer c) →
      Tells c n steps answers new
  comes number within is =
      let opened : before.end ≡ opening = before.unborn (omega (arith, number)) in
      record {
        end = before.end;
        ran = before.ran;
        here =
            subst (λ o. IsLeft o (record { limits = c; state = before.end })) (sym is)
            (λ i. record { limits = c; state = sym opened i });
        unborn = λ h. absurd (omega (arith, h, within));
        needed = before.needed;
      }

  -- it makes a step
  steps_on : (s : Step) (x : Answer) (end : State Segment ℕ) → n < length new.guests →
      Answers c x before.end s end → (x ≡ NoMemory → may_want_memory c before.end s ≡ true) →
      IsLeft (at new.guests n) (record { limits = c; state = end }) →
      Tells c n (steps ++ (n, s) ∷ []) (answers ++ x ∷ []) new
  steps_on s x end within answered wanted left = record {
    end = end;
    ran = told-own c opening before.end end steps (n, s) answers x n (sym many) refl before.ran answered;
    here = left;
    unborn = λ h. absurd (omega (arith, h, within));
    needed = needed_next c opening steps answers n many (n, s) x before.needed
        (λ own none. ap (λ (r : Run). may_want_memory c r.state s) before.ran ∙ wanted none);
  }

  -- another makes one
  steps_by : (m : ℕ) (s : Step) (x : Answer) → m ≢ n → at new.guests n ≡ at old.guests n →
      (length new.guests ≤ n → length old.guests ≤ n) → Tells c n (steps ++ (m, s) ∷ []) (answers ++ x ∷ []) new
  steps_by m s x other same past = record {
    end = before.end;
    ran = told-other c opening before.end steps (m, s) answers x n (sym many) other before.ran;
    here = subst (λ o. IsLeft o (record { limits = c; state = before.end })) (sym same) before.here;
    unborn = λ h. before.unborn (past h);
    needed = needed_next c opening steps answers n many (m, s) x before.needed (λ own. absurd (other own));
  }

-- Each event

-- an admission is that of the next name
abbrev pub IsDue : (ℕ → Limits) → House → Event → Type 0
IsDue limits h (Stepping n s) = Unit {0}
IsDue limits h (Admitting c) = c ≡ limits (given h)
IsDue limits h (Retiring n) = Unit {0}

-- what is told, one event later
abbrev TellsMore : Limits → ℕ → List (ℕ × Step) → List Answer → Event → EventAnswer → House → Type 0
TellsMore c n steps answers e a new = Tells c n (steps ++ step_in e a []) (answers ++ answer_in e a []) new

module _ (limits : ℕ → Limits) (n : ℕ) (steps : List (ℕ × Step)) (answers : List Answer)
    (many : length answers ≡ length steps) (old : House) (before : Tells (limits n) n steps answers old) where
  abbrev c : Limits
  c = limits n

  -- of an event that isn't a step that was answered
  no_step : (new : House) → Tells c n steps answers new → Tells c n (steps ++ []) (answers ++ []) new
  no_step new so =
      subst (λ xs. Tells c n xs (answers ++ []) new) (sym (append-nil steps))
      (subst (λ ys. Tells c n steps ys new) (sym (append-nil answers)) so)

  step_told : (m : ℕ) (s : Step) (o : Option Guest) → at old.guests m ≡ o →
      TellsMore c n steps answers (Stepping m s) (step_turn old m s o).answer
      (keep_place (step_turn old m s o).house (step_turn old m s o).answer)
  step_told m s None there = no_step old before
  step_told m s (Some g) there =
      let made = step_of g.limits g.state s in
      let after : Guest = record { limits = g.limits; state = made.state } in
      let new : House = record old { guests = put_at old.guests m after } in
      let long = length-set old.guests m (Some after) in
      elim (cases_eq m n) [
        | inl own ↦
            let there_n : at old.guests n ≡ Some g = subst (λ k. at old.guests k ≡ Some g) own there in
            let within : n < length old.guests = at_within old.guests n g there_n in
            let guest : g ≡ record { limits = c; state = before.end } =
            subst (λ o. IsLeft o (record { limits = c; state = before.end })) there_n before.here in
            let own_state : (step_of g.limits g.state s) ≡ step_of c before.end s =
            ap (λ (x : Guest). step_of x.limits x.state s) guest in
            let put : at new.guests n ≡ Some after =
            subst (λ k. at (put_at old.guests k after) n ≡ Some after) (sym own)
            (at-put_same old.guests n (Some after) within) in
            subst (λ k. Tells c n (steps ++ (k, s) ∷ []) (answers ++ Done made.reply ∷ []) new) (sym own)
            (steps_on c n steps answers many old new before s (Done made.reply) made.state (omega (arith, within, long))
            own_state (λ none. absurd (cc))
            (subst (λ o. IsLeft o (record { limits = c; state = made.state })) (sym put)
            (λ i. record { limits = (guest i).limits; state = made.state })))
        | inr ne ↦
            steps_by c n steps answers many old new before m s (Done made.reply) ne
            (at-put_other old.guests m n (Some after) (λ (o : n ≡ m). ne (sym o)))
            (λ h. omega (arith, long, h))
      ]

  want_told : (m : ℕ) (s : Step) → MayWant (at old.guests m) s →
      TellsMore c n steps answers (Stepping m s) (told.Answer NoMemory) old
  want_told m s may = elim (cases_eq m n) [
    | inl own ↦
        subst (λ k. Tells c n (steps ++ (k, s) ∷ []) (answers ++ NoMemory ∷ []) old) (sym own)
        (wanted (at old.guests n) refl (subst (λ k. MayWant (at old.guests k) s) own may))
    | inr ne ↦ steps_by c n steps answers many old old before m s NoMemory ne refl (λ h. h)
  ]
    where
      wanted : (o : Option Guest) → at old.guests n ≡ o → MayWant o s →
          Tells c n (steps ++ (n, s) ∷ []) (answers ++ NoMemory ∷ []) old
      wanted None there may = absurd may
      wanted (Some g) there may =
          let guest : g ≡ record { limits = c; state = before.end } =
          subst (λ o. IsLeft o (record { limits = c; state = before.end })) there before.here in
          steps_on c n steps answers many old old before s NoMemory before.end (at_within old.guests n g there) refl
          (λ none. ap (λ (x : Guest). may_want_memory x.limits x.state s) (sym guest) ∙ may) before.here

  -- an admission adds a place, with whoever comes or with nobody
  admit_told : (l : Limits) → l ≡ limits (given old) → (fault : Option AdmitFault) →
      TellsMore c n steps answers (Admitting l) (admit_turn old l fault).answer
      (keep_place (admit_turn old l fault).house (admit_turn old l fault).answer)
  admit_told l due None =
      let new : House = record old { guests = old.guests ++ Some (newcomer l) ∷ [] } in
      let long = length-append old.guests (Some (newcomer l) ∷ []) in
      no_step new (elim (cases_lt n (length old.guests)) [
        | inl h ↦
            kept_as_it_was c n steps answers many old new before
            (at-push_old old.guests (Some (newcomer l)) n h) (λ p. omega (arith, long, p))
        | inr h ↦ elim (cases_eq (length old.guests) n) [
          | inl own ↦
              let same : l ≡ c = due ∙ ap limits own in
              comes c n steps answers many old new before own (omega (arith, long, own))
              (subst (λ k. at new.guests k ≡ Some (newcomer c)) own
              (at-push_new old.guests (Some (newcomer l)) ∙ ap (λ x. Some (newcomer x)) same))
          | inr ne ↦
              kept_as_it_was c n steps answers many old new before
              (at_past new.guests n (omega (arith, long, h, ne)) ∙ sym (at_past old.guests n h)) (λ p. h)
        ]
      ])
  admit_told l due (Some fault) = no_step _ (skipped)
    where
      new : House
      new = record old { guests = old.guests ++ None ∷ [] }

      long : length (old.guests ++ None ∷ []) ≡ length old.guests + 1
      long = length-append old.guests (None ∷ [])

      skipped : Tells c n steps answers new
      skipped = elim (cases_lt n (length old.guests)) [
        | inl h ↦
            kept_as_it_was c n steps answers many old new before
            (at-push_old old.guests None n h) (λ p. omega (arith, long, p))
        | inr h ↦ elim (cases_eq (length old.guests) n) [
          | inl own ↦
              goes c n steps answers many old new before
              (subst (λ k. at new.guests k ≡ None) own (at-push_new old.guests None)) (λ p. h)
          | inr ne ↦
              kept_as_it_was c n steps answers many old new before
              (at_past new.guests n (omega (arith, long, h, ne)) ∙ sym (at_past old.guests n h)) (λ p. h)
        ]
      ]

  retire_told : (m : ℕ) (o : Option Guest) → at old.guests m ≡ o → (fault : Option RetireFault) →
      TellsMore c n steps answers (Retiring m) (retire_turn old m fault).answer
      (keep_place (retire_turn old m fault).house (retire_turn old m fault).answer)
  retire_told m o there (Some fault) = no_step old before
  retire_told m o there None =
      let new : House = record old { guests = clear_at old.guests m } in
      let long = length-set old.guests m None in
      no_step new (elim (cases_eq m n) [
        | inl own ↦
            goes c n steps answers many old new before (subst (λ k. at (clear_at old.guests k) n ≡ None) (sym own) cleared)
            (λ h. omega (arith, long, h))
        | inr ne ↦
            kept_as_it_was c n steps answers many old new before
            (at-put_other old.guests m n None (λ (o : n ≡ m). ne (sym o))) (λ h. omega (arith, long, h))
      ])
    where
      cleared : at (clear_at old.guests n) n ≡ None
      cleared = elim (cases_lt n (length old.guests)) [
        | inl h ↦ at-put_same old.guests n None h
        | inr h ↦ at_past (clear_at old.guests n) n (omega (arith, length-set old.guests n None, h))
      ]

  turned : (e : Event) → IsDue limits old e →
      TellsMore c n steps answers e (turn_of old e).answer (keep_place (turn_of old e).house (turn_of old e).answer)
  turned (Stepping m s) due = step_told m s (at old.guests m) refl
  turned (Admitting l) due = admit_told l due (admit_fault old l.reserve)
  turned (Retiring m) due = retire_told m (at old.guests m) refl (retire_fault (at old.guests m))

  wanted : (e : Event) (a : EventAnswer) → IsDue limits old e → Wants old e a →
      TellsMore c n steps answers e a (keep_place old a)
  wanted (Stepping m s) a due wants =
      subst (λ x. TellsMore c n steps answers (Stepping m s) x (keep_place old x)) (sym wants.0) (want_told m s wants.1)
  wanted (Admitting l) a due wants =
      subst (λ x. TellsMore c n steps answers (Admitting l) x (keep_place old x)) (sym wants.0)
      (admit_told l due (Some admission.NoMemory))
  wanted (Retiring m) a due wants = absurd wants

  pub tells_more : (e : Event) (a : EventAnswer) (new : House) → IsDue limits old e → Falls old e a new →
      TellsMore c n steps answers e a new
  tells_more e a new due falls =
      let mid = falls.0 in
      subst (λ h. TellsMore c n steps answers e a h) (sym falls.2)
      (elim (falls.1).turn [
        | inl same ↦
            subst (λ (t : Turn). TellsMore c n steps answers e t.answer (keep_place t.house t.answer)) (sym same) (turned e due)
        | inr wants ↦
            subst (λ h. TellsMore c n steps answers e a (keep_place h a)) (sym wants.1) (wanted e a due wants.0)
      ])

-- All names

-- events have happened in turn, and each name was told what its lone machine is
pub record Going (limits : ℕ → Limits) (first : House) (es : List Event) (answers : List EventAnswer) (house : House) : Type
    0 where
  pub fall : Fall first es answers house
  pub own : (n : ℕ) → Tells (limits n) n (steps_in es answers) (answers_in es answers) house

pub goes_on : (limits : ℕ → Limits) (first old new : House) (es : List Event) (answers : List EventAnswer) (e : Event)
    (a : EventAnswer) → Going limits first es answers old → IsDue limits old e → Falls old e a new →
    Going limits first (es ++ e ∷ []) (answers ++ a ∷ []) new
goes_on limits first old new es answers e a going due falls =
    let many = fall_many first old es answers going.fall in
    record {
      fall = fall_more first old new es answers e a going.fall falls;
      own = λ n.
          subst (λ xs. Tells (limits n) n xs (answers_in (es ++ e ∷ []) (answers ++ a ∷ [])) new)
          (sym (steps_more es answers e a many))
          (subst (λ ys. Tells (limits n) n (steps_in es answers ++ step_in e a []) ys new)
          (sym (answers_more es answers e a many))
          (tells_more limits n (steps_in es answers) (answers_in es answers) (as_many es answers) old (going.own n) e a new due falls));
    }

-- nothing has happened yet to those who are there from the start
pub begins : (limits : ℕ → Limits) (frames : ℕ) (ls : List Limits) →
    ((n : ℕ) (l : Limits) → slice_get ls n ≡ Some l → l ≡ limits n) →
    Going limits (record { frames = frames; guests = map (λ l. Some (newcomer l)) ls }) [] []
    (record { frames = frames; guests = map (λ l. Some (newcomer l)) ls })
begins limits frames ls are = record {
  fall = refl;
  own = λ n. record {
    end = opening;
    ran = refl;
    here = there ls n (are n);
    unborn = λ h. refl;
    needed = λ place step at at'. absurd (cc);
  };
}
  where
    there : (xs : List Limits) (n : ℕ) → ((l : Limits) → slice_get xs n ≡ Some l → l ≡ limits n) →
        IsLeft (at (map (λ l. Some (newcomer l)) xs) n) (record { limits = limits n; state = opening })
    there xs n is = from xs n is
      where
        from : {c : Limits} (xs : List Limits) (k : ℕ) → ((l : Limits) → slice_get xs k ≡ Some l → l ≡ c) →
            IsLeft (at (map (λ l. Some (newcomer l)) xs) k) (record { limits = c; state = opening })
        from [] k is = tt
        from (x ∷ xs) zero is = λ i. newcomer (is x refl i)
        from (x ∷ xs) (suc k) is = from xs k is
