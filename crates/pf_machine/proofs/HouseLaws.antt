-- Laws of namespaces that come and go: one event more, and what each namespace is told from its admission to its
-- retirement.

use Rattle.std.proofs.Common.{◌≡◌, ℕ, ◌+◌, ◌<◌, ◌≤◌, Bool, true, false, List, [], ◌∷◌, ◌++◌, length, Option, Some, None}
use Rattle.std.proofs.Common.{refl, ap, sym, ◌∙◌, subst, arith, length-append, length-set, inl, inr}
use Rattle.std.specs.Prelude.{◌⊎◌, nat_eq, if◌then◌else◌}
use Rattle.std.proofs.lemmas.Bool.{cases_eq, cases_lt, eq-eqb, ne_eqb}
use Rattle.pf_base.specs.declared.admission.AdmitFault.{AdmitFault}
use Rattle.pf_base.specs.declared.admission.AdmitFault.TheVariants as admission
use Rattle.pf_base.specs.declared.admission.RetireFault.{RetireFault}
use Rattle.pf_base.specs.declared.admission.EventAnswer.{EventAnswer}
use Rattle.pf_base.specs.declared.admission.EventAnswer.TheVariants as told
use Rattle.pf_base.specs.declared.step.Answer.{Answer}
use Rattle.pf_base.specs.declared.step.Answer.TheVariants.{Done, NoMemory}
use Rattle.pf_base.specs.declared.step.Reply.{Reply}
use Rattle.pf_base.specs.declared.step.Step.{Step}
use Rattle.pf_base.specs.Limits.{Limits}
use Rattle.pf_machine.specs.Events.{keep_step, keep_reply}
use Rattle.pf_machine.specs.Houses.{House, Guest, Event, Stepping, Admitting, Retiring, Turn, newcomer, step_turn, admit_turn, admit_fault}
use Rattle.pf_machine.specs.Houses.{retire_turn, retire_fault, turn_of, Wants, Happens, Happen, kept_in, replies_in, begun_by, begun_in}
use Rattle.pf_machine.specs.Houses.{begun, IsLeft, IsOwn, AreOwn, AreAloneIn}
use Rattle.pf_machine.specs.Machine.{step_of}
use Rattle.pf_machine.specs.Numbered.{at, put_at, clear_at}
use Rattle.pf_machine.specs.Runs.{run_of}
use Rattle.pf_machine.proofs.NumberedLaws.{at-put_same, at-put_other, at_past, at_within, at-push_old, at-push_new}

-- one event more happened
pub happen_more : (old mid new : House) (es : List Event) (answers : List EventAnswer) (e : Event) (a : EventAnswer)
    → Happen old es answers mid → Happens mid e a new → Happen old (es ++ e ∷ []) (answers ++ a ∷ []) new
happen_more old mid new [] [] e a so next = (new, subst (λ (h : House). Happens h e a new) so next, refl)
happen_more old mid new [] (b ∷ answers) e a so next = absurd so
happen_more old mid new (x ∷ es) [] e a so next = absurd so
happen_more old mid new (x ∷ es) (b ∷ answers) e a so next = (so.0, so.1, happen_more so.0 mid new es answers e a so.2 next)

-- there is an answer for each
pub happen_many : (old new : House) (es : List Event) (answers : List EventAnswer) → Happen old es answers new
    → length answers ≡ length es
happen_many old new [] [] so = refl
happen_many old new [] (a ∷ answers) so = absurd so
happen_many old new (e ∷ es) [] so = absurd so
happen_many old new (e ∷ es) (a ∷ answers) so = let rest = happen_many so.0 new es answers so.2 in omega (arith, rest)

-- What one event does to one number

module _ (e : Event) (a : EventAnswer) (n : ℕ) where
  -- n is told nothing of it that is kept
  pub record Passes : Type 0 where
    pub kept : (es : List Event) (answers : List EventAnswer) → kept_in (e ∷ es) (a ∷ answers) n ≡ kept_in es answers n
    pub replies : (es : List Event) (answers : List EventAnswer) → replies_in (e ∷ es) (a ∷ answers) n ≡ replies_in es answers n

  module _ (old mid : House) where
    -- and it is as it was
    pub record Quiet : Type 0 where
      pub passes : Passes
      pub begun : (rest : Option Guest) → begun_by e a n rest ≡ rest
      pub same : at mid.guests n ≡ at old.guests n
      pub unborn : length old.guests ≤ n → length mid.guests ≤ n

    -- it makes a step
    pub record Steps : Type 0 where
      pub guest : Guest
      pub step : Step
      pub was : at old.guests n ≡ Some guest
      pub is : at mid.guests n ≡ Some (record { limits = guest.limits; state = (step_of guest.limits guest.state step).state })
      pub kept : (es : List Event) (answers : List EventAnswer)
          → kept_in (e ∷ es) (a ∷ answers) n ≡ step ∷ kept_in es answers n
      pub replies : (es : List Event) (answers : List EventAnswer)
          → replies_in (e ∷ es) (a ∷ answers) n ≡ (step_of guest.limits guest.state step).reply ∷ replies_in es answers n

    -- it is retired
    pub record Goes : Type 0 where
      pub passes : Passes
      pub guest : Guest
      pub was : at old.guests n ≡ Some guest
      pub within : n < length old.guests
      pub is : at mid.guests n ≡ None

    -- it is admitted
    pub record Comes : Type 0 where
      pub passes : Passes
      pub limits : Limits
      pub number : length old.guests ≡ n
      pub is : at mid.guests n ≡ Some (newcomer limits)
      pub begun : (rest : Option Guest) → begun_by e a n rest ≡ Some (newcomer limits)

    pub record Effect : Type 0 where
      pub grows : length old.guests ≤ length mid.guests
      pub does : Quiet ⊎ (Steps ⊎ (Goes ⊎ Comes))

-- a step of somebody else
other_step : (m n : ℕ) (s : Step) (x : Answer) → (m ≡ n → ⊥) → Passes (Stepping m s) (told.Answer x) n
other_step m n s x ne = record {
  kept = λ es answers.
      ap (λ b. if b then keep_step x s (kept_in es answers n) else kept_in es answers n) (ne_eqb m n ne);
  replies = λ es answers.
      ap (λ b. if b then keep_reply x (replies_in es answers n) else replies_in es answers n) (ne_eqb m n ne);
}

-- a step that memory was wanted for
unkept : (m n : ℕ) (s : Step) → Passes (Stepping m s) (told.Answer NoMemory) n
unkept m n s = record {
  kept = λ es answers. either (nat_eq m n) (kept_in es answers n);
  replies = λ es answers. either (nat_eq m n) (replies_in es answers n);
}
  where
    either : {X : Type 0} (b : Bool) (xs : List X) → (if b then xs else xs) ≡ xs
    either true xs = refl
    either false xs = refl

-- nothing that is kept, and nothing changed
still : (old : House) (e : Event) (a : EventAnswer) (n : ℕ) → Passes e a n
    → ((rest : Option Guest) → begun_by e a n rest ≡ rest) → Effect e a n old old
still old e a n passes begun = record {
  grows = omega arith;
  does = inl (record { passes = passes; begun = begun; same = refl; unborn = λ h. h });
}

stepped : (old : House) (m n : ℕ) (s : Step) (o : Option Guest) → at old.guests m ≡ o →
    Effect (Stepping m s) (step_turn old m s o).answer n old (step_turn old m s o).house
stepped old m n s None there =
    still old (Stepping m s) told.Gone n (record { kept = λ es answers. refl; replies = λ es answers. refl }) (λ rest. refl)
stepped old m n s (Some g) there = record {
  grows = omega (arith, length-set old.guests m (Some after));
  does = elim (cases_eq m n) [
    | inl own ↦ inr (inl (record {
      guest = g;
      step = s;
      was = subst (λ k. at old.guests k ≡ Some g) own there;
      is =
          subst (λ k. at (put_at old.guests m after) k ≡ Some after) own
          (at-put_same old.guests m (Some after) (at_within old.guests m g there));
      kept = λ es answers.
          ap (λ b. if b then s ∷ kept_in es answers n else kept_in es answers n) (eq-eqb m n own);
      replies = λ es answers.
          ap (λ b. if b then reply ∷ replies_in es answers n else replies_in es answers n) (eq-eqb m n own);
    }))
    | inr ne ↦ inl (record {
      passes = other_step m n s (Done reply) ne;
      begun = λ rest. refl;
      same = at-put_other old.guests m n (Some after) (λ (o : n ≡ m). ne (sym o));
      unborn = λ h. omega (arith, length-set old.guests m (Some after), h);
    })
  ];
}
  where
    after : Guest
    after = record { limits = g.limits; state = (step_of g.limits g.state s).state }

    reply : Reply
    reply = (step_of g.limits g.state s).reply

nothing_of : (limits : Limits) (a : EventAnswer) (n : ℕ) → Passes (Admitting limits) a n
nothing_of limits a n = record { kept = λ es answers. refl; replies = λ es answers. refl }

admitted : (old : House) (limits : Limits) (n : ℕ) (fault : Option AdmitFault) →
    Effect (Admitting limits) (admit_turn old limits fault).answer n old (admit_turn old limits fault).house
admitted old limits n (Some fault) =
    still old (Admitting limits) (told.NotAdmitted fault) n (nothing_of limits (told.NotAdmitted fault) n) (λ rest. refl)
admitted old limits n None = record {
  grows = omega (arith, longer);
  does = elim (cases_eq (length old.guests) n) [
    | inl own ↦ inr (inr (inr (record {
      passes = nothing_of limits (told.Admitted (length old.guests)) n;
      limits = limits;
      number = own;
      is =
          subst (λ k. at (old.guests ++ Some (newcomer limits) ∷ []) k ≡ Some (newcomer limits)) own
          (at-push_new old.guests (Some (newcomer limits)));
      begun = λ rest. ap (λ b. if b then Some (newcomer limits) else rest) (eq-eqb (length old.guests) n own);
    })))
    | inr ne ↦ inl (record {
      passes = nothing_of limits (told.Admitted (length old.guests)) n;
      begun = λ rest. ap (λ b. if b then Some (newcomer limits) else rest) (ne_eqb (length old.guests) n ne);
      same = beside ne;
      unborn = λ h. omega (arith, longer, h, ne);
    })
  ];
}
  where
    longer : length (old.guests ++ Some (newcomer limits) ∷ []) ≡ length old.guests + 1
    longer = length-append old.guests (Some (newcomer limits) ∷ [])

    beside : (length old.guests ≡ n → ⊥) → at (old.guests ++ Some (newcomer limits) ∷ []) n ≡ at old.guests n
    beside ne = elim (cases_lt n (length old.guests)) [
      | inl h ↦ at-push_old old.guests (Some (newcomer limits)) n h
      | inr h ↦
          at_past (old.guests ++ Some (newcomer limits) ∷ []) n (omega (arith, longer, h, ne))
          ∙ sym (at_past old.guests n h)
    ]

nothing_at : (m : ℕ) (a : EventAnswer) (n : ℕ) → Passes (Retiring m) a n
nothing_at m a n = record { kept = λ es answers. refl; replies = λ es answers. refl }

retired : (old : House) (m n : ℕ) (o : Option Guest) → at old.guests m ≡ o → (fault : Option RetireFault) →
    retire_fault o ≡ fault → Effect (Retiring m) (retire_turn old m fault).answer n old (retire_turn old m fault).house
retired old m n o there (Some fault) is =
    still old (Retiring m) (told.NotRetired fault) n (nothing_at m (told.NotRetired fault) n) (λ rest. refl)
retired old m n None there None is = absurd (cc)
retired old m n (Some g) there None is = record {
  grows = omega (arith, length-set old.guests m None);
  does = elim (cases_eq m n) [
    | inl own ↦ inr (inr (inl (record {
      passes = nothing_at m told.Retired n;
      guest = g;
      was = subst (λ k. at old.guests k ≡ Some g) own there;
      within = subst (λ k. k < length old.guests) own (at_within old.guests m g there);
      is =
          subst (λ k. at (clear_at old.guests m) k ≡ None) own
          (at-put_same old.guests m None (at_within old.guests m g there));
    })))
    | inr ne ↦ inl (record {
      passes = nothing_at m told.Retired n;
      begun = λ rest. refl;
      same = at-put_other old.guests m n None (λ (o : n ≡ m). ne (sym o));
      unborn = λ h. omega (arith, length-set old.guests m None, h);
    })
  ];
}

turned : (old : House) (e : Event) (n : ℕ) → Effect e (turn_of old e).answer n old (turn_of old e).house
turned old (Stepping m s) n = stepped old m n s (at old.guests m) refl
turned old (Admitting limits) n = admitted old limits n (admit_fault old limits.reserve)
turned old (Retiring m) n = retired old m n (at old.guests m) refl (retire_fault (at old.guests m)) refl

wanted : (old : House) (e : Event) (a : EventAnswer) (n : ℕ) → Wants old e a → Effect e a n old old
wanted old (Stepping m s) a n wants =
    subst (λ (x : EventAnswer). Effect (Stepping m s) x n old old) (sym wants.0)
    (still old (Stepping m s) (told.Answer NoMemory) n (unkept m n s) (λ rest. refl))
wanted old (Admitting limits) a n wants =
    subst (λ (x : EventAnswer). Effect (Admitting limits) x n old old) (sym wants.0)
    (still old (Admitting limits) (told.NotAdmitted admission.NoMemory) n
    (nothing_of limits (told.NotAdmitted admission.NoMemory) n) (λ rest. refl))
wanted old (Retiring m) a n wants = absurd wants

effect : {old mid : House} (e : Event) (a : EventAnswer) (n : ℕ) → Happens old e a mid → Effect e a n old mid
effect {old} {mid} e a n happens = elim happens.turn [
  | inl same ↦ subst (λ (t : Turn). Effect e t.answer n old t.house) (sym same) (turned old e n)
  | inr wants ↦ subst (λ (h : House). Effect e a n old h) (sym wants.1) (wanted old e a n wants.0)
]

-- What one namespace is told of all

-- nothing, where its number was given and nobody has it; and so it stays
record IsGone (end : Option Guest) (steps : List Step) (replies : List Reply) : Type 0 where
  nobody : end ≡ None
  unstepped : steps ≡ []
  untold : replies ≡ []

gone : (old new : House) (es : List Event) (answers : List EventAnswer) (n : ℕ) → Happen old es answers new →
    n < length old.guests → at old.guests n ≡ None → IsGone (at new.guests n) (kept_in es answers n) (replies_in es answers n)
gone old new [] [] n so within none =
    record { nobody = ap (λ (h : House). at h.guests n) so ∙ none; unstepped = refl; untold = refl }
gone old new [] (a ∷ answers) n so within none = absurd so
gone old new (e ∷ es) [] n so within none = absurd so
gone old new (e ∷ es) (a ∷ answers) n so within none =
    let here = effect e a n so.1 in
    let later : at so.0.guests n ≡ None → IsGone (at new.guests n) (kept_in es answers n) (replies_in es answers n)
    = gone so.0 new es answers n so.2 (omega (arith, here.grows, within)) in
    let with_it : Passes e a n → at so.0.guests n ≡ None
    → IsGone (at new.guests n) (kept_in (e ∷ es) (a ∷ answers) n) (replies_in (e ∷ es) (a ∷ answers) n)
    = λ passes is. record {
      nobody = (later is).nobody;
      unstepped = passes.kept es answers ∙ (later is).unstepped;
      untold = passes.replies es answers ∙ (later is).untold;
    } in
    elim here.does [
      | inl quiet ↦ with_it quiet.passes (quiet.same ∙ none)
      | inr (inl steps) ↦ absurd (let no : ◌≡◌ {A = Option Guest} None (Some steps.guest) = sym none ∙ steps.was in cc)
      | inr (inr (inl goes)) ↦ with_it goes.passes goes.is
      | inr (inr (inr comes)) ↦ absurd (omega (arith, comes.number, within))
    ]

module _ (end : Option Guest) where
  -- an event that passes it leaves what is said of it
  passed : (e : Event) (a : EventAnswer) (n : ℕ) (es : List Event) (answers : List EventAnswer) (g : Guest) → Passes e a n →
      IsOwn g end (kept_in es answers n) (replies_in es answers n) →
      IsOwn g end (kept_in (e ∷ es) (a ∷ answers) n) (replies_in (e ∷ es) (a ∷ answers) n)
  passed e a n es answers g passes own =
      subst (λ (rs : List Reply). IsOwn g end (kept_in (e ∷ es) (a ∷ answers) n) rs) (sym (passes.replies es answers))
      (subst (λ (ss : List Step). IsOwn g end ss (replies_in es answers n)) (sym (passes.kept es answers)) own)

  -- and a step that it makes goes on with its run
  made : (g : Guest) (s : Step) (steps : List Step) (told : List Reply) →
      IsOwn (record { limits = g.limits; state = (step_of g.limits g.state s).state }) end steps told →
      IsOwn g end (s ∷ steps) ((step_of g.limits g.state s).reply ∷ told)
  made g s steps told own =
      record { replies = ap (λ rs. (step_of g.limits g.state s).reply ∷ rs) own.replies; left = own.left }

-- who lives is told what its lone machine is told, and is in its state as long as it lives
pub own : (old new : House) (es : List Event) (answers : List EventAnswer) (n : ℕ) (g : Guest) → Happen old es answers new →
    at old.guests n ≡ Some g → IsOwn g (at new.guests n) (kept_in es answers n) (replies_in es answers n)
own old new [] [] n g so is = record {
  replies = refl;
  left = subst (λ o. IsLeft o g) (sym (ap (λ (h : House). at h.guests n) so ∙ is)) refl;
}
own old new [] (a ∷ answers) n g so is = absurd so
own old new (e ∷ es) [] n g so is = absurd so
own old new (e ∷ es) (a ∷ answers) n g so is =
    let here = effect e a n so.1 in
    elim here.does [
      | inl quiet ↦
          passed (at new.guests n) e a n es answers g quiet.passes (own so.0 new es answers n g so.2 (quiet.same ∙ is))
      | inr (inl steps) ↦
          let same : ◌≡◌ {A = Option Guest} (Some steps.guest) (Some g) = sym steps.was ∙ is in
          let guest : steps.guest ≡ g = cc in
          subst (λ (x : Guest). IsOwn x (at new.guests n) (kept_in (e ∷ es) (a ∷ answers) n) (replies_in (e ∷ es) (a ∷ answers) n))
          guest
          (subst (λ (rs : List Reply). IsOwn steps.guest (at new.guests n) (kept_in (e ∷ es) (a ∷ answers) n) rs)
          (sym (steps.replies es answers))
          (subst (λ (ss : List Step). IsOwn steps.guest (at new.guests n) ss ((step_of steps.guest.limits steps.guest.state steps.step).reply ∷ replies_in es answers n))
          (sym (steps.kept es answers))
          (made (at new.guests n) steps.guest steps.step (kept_in es answers n) (replies_in es answers n)
          (own so.0 new es answers n (record { limits = steps.guest.limits; state = (step_of steps.guest.limits steps.guest.state steps.step).state }) so.2 steps.is))))
      | inr (inr (inl goes)) ↦
          let left = gone so.0 new es answers n so.2 (omega (arith, here.grows, goes.within)) goes.is in
          passed (at new.guests n) e a n es answers g goes.passes (retires g _ _ _ left)
      | inr (inr (inr comes)) ↦ absurd (omega (arith, comes.number, at_within old.guests n g is))
    ]
  where
    retires : (g : Guest) (end : Option Guest) (steps : List Step) (told : List Reply) → IsGone end steps told →
        IsOwn g end steps told
    retires g end steps told left =
        subst (λ (rs : List Reply). IsOwn g end steps rs) (sym left.untold)
        (subst (λ (ss : List Step). IsOwn g end ss []) (sym left.unstepped)
        (subst (λ (o : Option Guest). IsOwn g o [] []) (sym left.nobody) (record { replies = refl; left = tt })))

-- who is admitted is told so from there on
unborn : (old new : House) (es : List Event) (answers : List EventAnswer) (n : ℕ) (g : Guest) → Happen old es answers new →
    length old.guests ≤ n → begun_in es answers n ≡ Some g →
    IsOwn g (at new.guests n) (kept_in es answers n) (replies_in es answers n)
unborn old new [] [] n g so past is = absurd (cc)
unborn old new [] (a ∷ answers) n g so past is = absurd so
unborn old new (e ∷ es) [] n g so past is = absurd so
unborn old new (e ∷ es) (a ∷ answers) n g so past is =
    elim (effect e a n so.1).does [
      | inl quiet ↦
          passed (at new.guests n) e a n es answers g quiet.passes
          (unborn so.0 new es answers n g so.2 (quiet.unborn past) (sym (quiet.begun (begun_in es answers n)) ∙ is))
      | inr (inl steps) ↦ absurd (omega (arith, at_within old.guests n steps.guest steps.was, past))
      | inr (inr (inl goes)) ↦ absurd (omega (arith, goes.within, past))
      | inr (inr (inr comes)) ↦
          let same : ◌≡◌ {A = Option Guest} (Some (newcomer comes.limits)) (Some g) = sym (comes.begun (begun_in es answers n)) ∙ is in
          let guest : newcomer comes.limits ≡ g = cc in
          passed (at new.guests n) e a n es answers g comes.passes
          (own so.0 new es answers n g so.2 (comes.is ∙ ap (λ (x : Guest). Some x) guest))
    ]

-- and whose number was given before is admitted no more
unborn_or_gone : (old new : House) (es : List Event) (answers : List EventAnswer) (n : ℕ) (g : Guest) → Happen old es answers new →
    at old.guests n ≡ None → n < length old.guests → begun_in es answers n ≡ Some g → ⊥
unborn_or_gone old new [] [] n g so none within is = cc
unborn_or_gone old new [] (a ∷ answers) n g so none within is = so
unborn_or_gone old new (e ∷ es) [] n g so none within is = so
unborn_or_gone old new (e ∷ es) (a ∷ answers) n g so none within is =
    let here = effect e a n so.1 in
    elim here.does [
      | inl quiet ↦
          unborn_or_gone so.0 new es answers n g so.2 (quiet.same ∙ none) (omega (arith, here.grows, within))
          (sym (quiet.begun (begun_in es answers n)) ∙ is)
      | inr (inl steps) ↦ let no : ◌≡◌ {A = Option Guest} None (Some steps.guest) = sym none ∙ steps.was in cc
      | inr (inr (inl goes)) ↦ let no : ◌≡◌ {A = Option Guest} None (Some goes.guest) = sym none ∙ goes.was in cc
      | inr (inr (inr comes)) ↦ omega (arith, comes.number, within)
    ]

-- so each that begins is told, from there to its retirement, what its lone machine is told
pub all_own : (old new : House) (es : List Event) (answers : List EventAnswer) → Happen old es answers new → AreOwn old es answers new
all_own old new es answers so n g is = by (at old.guests n) refl is
  where
    by : (o : Option Guest) → at old.guests n ≡ o → begun o es answers n ≡ Some g →
        IsOwn g (at new.guests n) (kept_in es answers n) (replies_in es answers n)
    by (Some x) there first =
        let same : x ≡ g = cc in own old new es answers n g so (there ∙ ap (λ (y : Guest). Some y) same)
    by None there first = elim (cases_lt n (length old.guests)) [
      | inl h ↦ absurd (unborn_or_gone old new es answers n g so there h first)
      | inr h ↦ unborn old new es answers n g so h first
    ]

-- in particular, in the lone machine's own words: who was at its opening state, or is admitted
pub all_alone : (old new : House) (es : List Event) (answers : List EventAnswer) → Happen old es answers new → AreAloneIn old es answers
all_alone old new es answers so n g is opened =
    (all_own old new es answers so n g is).replies
    ∙ ap (λ s. (run_of g.limits s (kept_in es answers n)).replies) opened
