-- One name alone in a house is told what it is told among others, wherever these let it in.

use Rattle.std.proofs.Common.{◌≡◌, ℕ, ◌<◌, [], ◌∷◌, length, refl, sym, ◌∙◌}
use Rattle.std.proofs.Common.{subst, set, arith, length-set, length-append}
use Rattle.std.specs.Prelude.{Option, Some, None}
use Rattle.pf_base.specs.declared.admission.RetireFault.{RetireFault}
use Rattle.pf_base.specs.declared.step.Step.{Step}
use Rattle.pf_base.specs.Limits.{Limits}
use Rattle.pf_base.specs.declared.admission.AdmitFault.{AdmitFault}
use Rattle.pf_machine.specs.Houses.{House, Guest, Stepping, Retiring, newcomer, step_turn, admit_turn, retire_turn}
use Rattle.pf_machine.specs.Houses.{retire_fault, turn_of}
use Rattle.pf_machine.specs.Machine.{step_of}
use Rattle.pf_machine.specs.Numbered.{at}
use Rattle.pf_machine.proofs.NumberedLaws.{at-put_same, at-put_other, at-push_old}
use Rattle.std.specs.Prelude.{List, map}
use Rattle.std.proofs.Common.{ap, ◌+◌}
use Rattle.std.proofs.lemmas.Bool.{ne_eqb, eq-eqb}
use Rattle.pf_base.specs.declared.admission.EventAnswer.{EventAnswer}
use Rattle.pf_machine.specs.Houses.{Admitting, admit_fault}
use Rattle.pf_script.specs.Places.{lines_of}
use Rattle.pf_script.specs.Sound.{AreGiven}
use Rattle.pf_script.specs.Text.{answers_of}
use Rattle.pf_script.specs.declared.line.Line.{Line}
use Rattle.pf_script.specs.declared.line.Line.TheVariants as lines
use Rattle.std.proofs.Common.{inl, inr, subst}
use Rattle.std.proofs.lemmas.Bool.{cases_eq}
use Rattle.pf_play.specs.Houses.{Falls, Fall, keep_place, said, said_of, limits_of_name}
use Rattle.pf_play.specs.Plays.{nomem_of}
use Rattle.pf_play.proofs.SameLaws.{whole}

-- the house of all, and that of the name alone: the same guest stands at both places
pub record Same (n : ℕ) (all lone : House) : Type 0 where
  pub within : n < length all.guests
  pub one : 0 < length lone.guests
  pub guest : at lone.guests 0 ≡ at all.guests n

-- what both do at a step of the name
module _ (n : ℕ) (all lone : House) (same : Same n all lone) where
  put : (x : Option Guest) → Same n (record all { guests = set all.guests n x }) (record lone { guests = set lone.guests 0 x })
  put x = record {
    within = omega (arith, length-set all.guests n x, same.within);
    one = omega (arith, length-set lone.guests 0 x, same.one);
    guest = at-put_same lone.guests 0 x same.one ∙ sym (at-put_same all.guests n x same.within);
  }

  pub both_step : (s : Step) → ((turn_of lone (Stepping 0 s)).answer ≡ (turn_of all (Stepping n s)).answer)
      × Same n (turn_of all (Stepping n s)).house (turn_of lone (Stepping 0 s)).house
  both_step s =
      subst (λ o. ((step_turn lone 0 s o).answer ≡ (step_turn all n s (at all.guests n)).answer)
      × Same n (step_turn all n s (at all.guests n)).house (step_turn lone 0 s o).house) (sym same.guest)
      (by (at all.guests n))
    where
      by : (o : Option Guest) → ((step_turn lone 0 s o).answer ≡ (step_turn all n s o).answer)
          × Same n (step_turn all n s o).house (step_turn lone 0 s o).house
      by None = (refl, same)
      by (Some g) = (refl, put (Some (record { limits = g.limits; state = (step_of g.limits g.state s).state })))

  pub both_retire : ((turn_of lone (Retiring 0)).answer ≡ (turn_of all (Retiring n)).answer)
      × Same n (turn_of all (Retiring n)).house (turn_of lone (Retiring 0)).house
  both_retire =
      subst (λ o. ((retire_turn lone 0 (retire_fault o)).answer ≡ (retire_turn all n (retire_fault (at all.guests n))).answer)
      × Same n (retire_turn all n (retire_fault (at all.guests n))).house (retire_turn lone 0 (retire_fault o)).house) (sym same.guest)
      (by (retire_fault (at all.guests n)))
    where
      by : (fault : Option RetireFault) → ((retire_turn lone 0 fault).answer ≡ (retire_turn all n fault).answer)
          × Same n (retire_turn all n fault).house (retire_turn lone 0 fault).house
      by None = (refl, put None)
      by (Some fault) = (refl, same)

-- An event of another name leaves it there
module _ (n k : ℕ) (ne : k ≡ n → ⊥) (all lone : House) (same : Same n all lone) where
  beside : (x : Option Guest) → Same n (record all { guests = set all.guests k x }) lone
  beside x = record {
    within = omega (arith, length-set all.guests k x, same.within);
    one = same.one;
    guest = same.guest ∙ sym (at-put_other all.guests k n x (λ (o : n ≡ k). ne (sym o)));
  }

  pub other_step : (s : Step) → Same n (turn_of all (Stepping k s)).house lone
  other_step s = by (at all.guests k)
    where
      by : (o : Option Guest) → Same n (step_turn all k s o).house lone
      by None = same
      by (Some g) = beside (Some (record { limits = g.limits; state = (step_of g.limits g.state s).state }))

  pub other_retire : Same n (turn_of all (Retiring k)).house lone
  other_retire = by (retire_fault (at all.guests k))
    where
      by : (fault : Option RetireFault) → Same n (retire_turn all k fault).house lone
      by None = beside None
      by (Some fault) = same

-- and so does an admission
pub other_admit : (n : ℕ) (all lone : House) → Same n all lone → (limits : Limits) (fault : Option AdmitFault) →
    Same n (keep_place (admit_turn all limits fault).house (admit_turn all limits fault).answer) lone
other_admit n all lone same limits None = record {
  within = omega (arith, length-append all.guests (Some (newcomer limits) ∷ []), same.within);
  one = same.one;
  guest = same.guest ∙ sym (at-push_old all.guests (Some (newcomer limits)) n same.within);
}
other_admit n all lone same limits (Some fault) = record {
  within = omega (arith, length-append all.guests (None ∷ []), same.within);
  one = same.one;
  guest = same.guest ∙ sym (at-push_old all.guests None n same.within);
}

-- what a step and a retirement leave has as many places
pub kept_step : (h : House) (k : ℕ) (s : Step) →
    (keep_place (turn_of h (Stepping k s)).house (turn_of h (Stepping k s)).answer ≡ (turn_of h (Stepping k s)).house)
    × (length (turn_of h (Stepping k s)).house.guests ≡ length h.guests)
kept_step h k s = by (at h.guests k)
  where
    by : (o : Option Guest) → (keep_place (step_turn h k s o).house (step_turn h k s o).answer ≡ (step_turn h k s o).house)
        × (length (step_turn h k s o).house.guests ≡ length h.guests)
    by None = (refl, refl)
    by (Some g) =
        (refl, length-set h.guests k (Some (record { limits = g.limits; state = (step_of g.limits g.state s).state })))

pub kept_retire : (h : House) (k : ℕ) →
    (keep_place (turn_of h (Retiring k)).house (turn_of h (Retiring k)).answer ≡ (turn_of h (Retiring k)).house)
    × (length (turn_of h (Retiring k)).house.guests ≡ length h.guests)
kept_retire h k = by (retire_fault (at h.guests k))
  where
    by : (fault : Option RetireFault) →
        (keep_place (retire_turn h k fault).house (retire_turn h k fault).answer ≡ (retire_turn h k fault).house)
        × (length (retire_turn h k fault).house.guests ≡ length h.guests)
    by None = (refl, length-set h.guests k None)
    by (Some fault) = (refl, refl)

pub admit_more : (h : House) (limits : Limits) (fault : Option AdmitFault) →
    length (keep_place (admit_turn h limits fault).house (admit_turn h limits fault).answer).guests ≡ length h.guests + 1
admit_more h limits None = length-append h.guests (Some (newcomer limits) ∷ [])
admit_more h limits (Some fault) = length-append h.guests (None ∷ [])

-- a name that lives among others, or did, is told from there on what it is told alone
module _ (spaces : List (List ℕ × Limits)) (limits : Limits) (n m : ℕ) where
  pub same_after : (all all' lone lone' : House) (es : List (ℕ × Line)) (answers own : List EventAnswer) →
      Fall all (map (said spaces) es) answers all' → Fall lone (map (said_of limits 0) (lines_of es n)) own lone' →
      Same n all lone → AreGiven (length all.guests) es m → 0 ≡ nomem_of answers → 0 ≡ nomem_of own →
      answers_of es answers n ≡ own
  unfolding answers_of
  same_after all all' lone lone' [] [] [] falls alone same known none none' = refl
  same_after all all' lone lone' [] [] (b ∷ own) falls alone same known none none' = absurd alone
  same_after all all' lone lone' [] (a ∷ answers) own falls alone same known none none' = absurd falls
  same_after all all' lone lone' (e ∷ es) [] own falls alone same known none none' = absurd falls
  same_after all all' lone lone' ((k, lines.Admit) ∷ es) (a ∷ answers) own falls alone same known none none' =
      let ne : k ≡ n → ⊥ = λ o. omega (arith, o, known.0, same.within) in
      let here = whole all falls.0 (Admitting (limits_of_name spaces k)) a falls.1 (omega (arith, none)) in
      let fault = admit_fault all (limits_of_name spaces k).reserve in
      let next : Same n falls.0 lone =
      subst (λ h. Same n h lone) (sym here.1) (other_admit n all lone same (limits_of_name spaces k) fault) in
      let many : length falls.0.guests ≡ length all.guests + 1 =
      ap (λ (h : House). length h.guests) here.1 ∙ admit_more all (limits_of_name spaces k) fault in
      let rest = rw (ne_eqb k n ne) at alone in
      rw (ne_eqb k n ne) (same_after falls.0 all' lone lone' es answers own falls.2 rest next
      (subst (λ c. AreGiven c es m) (sym many) known.1) (omega (arith, none)) none')
  same_after all all' lone lone' ((k, lines.Step s) ∷ es) (a ∷ answers) [] falls alone same known none none' =
      elim (cases_eq k n) [
        | inl o ↦ absurd (rw (eq-eqb k n o) at alone)
        | inr ne ↦
            let here = whole all falls.0 (Stepping k s) a falls.1 (omega (arith, none)) in
            let mid = here.1 ∙ (kept_step all k s).0 in
            let next : Same n falls.0 lone = subst (λ h. Same n h lone) (sym mid) (other_step n k ne all lone same s) in
            let many : length falls.0.guests ≡ length all.guests =
            ap (λ (h : House). length h.guests) mid ∙ (kept_step all k s).1 in
            let rest = rw (ne_eqb k n ne) at alone in
            rw (ne_eqb k n ne) (same_after falls.0 all' lone lone' es answers [] falls.2 rest next
            (subst (λ c. AreGiven c es m) (sym many) known.1) (omega (arith, none)) none')
      ]
  same_after all all' lone lone' ((k, lines.Step s) ∷ es) (a ∷ answers) (b ∷ own) falls alone same known none none' =
      elim (cases_eq k n) [
        | inl o ↦
            let falls_n = subst (λ j. Falls all (Stepping j s) a falls.0) o falls.1 in
            let here = whole all falls.0 (Stepping n s) a falls_n (omega (arith, none)) in
            let rest = rw (eq-eqb k n o) at alone in
            let there = whole lone rest.0 (Stepping 0 s) b rest.1 (omega (arith, none')) in
            let both = both_step n all lone same s in
            let mid = here.1 ∙ (kept_step all n s).0 in
            let mid' = there.1 ∙ (kept_step lone 0 s).0 in
            let next : Same n falls.0 rest.0 =
            subst (λ h. Same n h rest.0) (sym mid)
            (subst (λ h. Same n (turn_of all (Stepping n s)).house h) (sym mid') both.1) in
            let many : length falls.0.guests ≡ length all.guests =
            ap (λ (h : House). length h.guests) mid ∙ (kept_step all n s).1 in
            let same_answer : a ≡ b = here.0 ∙ sym (both.0) ∙ sym there.0 in
            let later = same_after falls.0 all' rest.0 lone' es answers own falls.2 rest.2 next
            (subst (λ c. AreGiven c es m) (sym many) known.1) (omega (arith, none)) (omega (arith, none')) in
            rw (eq-eqb k n o) (λ i. same_answer i ∷ later i)
        | inr ne ↦
            let here = whole all falls.0 (Stepping k s) a falls.1 (omega (arith, none)) in
            let mid = here.1 ∙ (kept_step all k s).0 in
            let next : Same n falls.0 lone = subst (λ h. Same n h lone) (sym mid) (other_step n k ne all lone same s) in
            let many : length falls.0.guests ≡ length all.guests =
            ap (λ (h : House). length h.guests) mid ∙ (kept_step all k s).1 in
            let rest = rw (ne_eqb k n ne) at alone in
            rw (ne_eqb k n ne) (same_after falls.0 all' lone lone' es answers (b ∷ own) falls.2 rest next
            (subst (λ c. AreGiven c es m) (sym many) known.1) (omega (arith, none)) none')
      ]
  same_after all all' lone lone' ((k, lines.Retire) ∷ es) (a ∷ answers) [] falls alone same known none none' =
      elim (cases_eq k n) [
        | inl o ↦ absurd (rw (eq-eqb k n o) at alone)
        | inr ne ↦
            let here = whole all falls.0 (Retiring k) a falls.1 (omega (arith, none)) in
            let mid = here.1 ∙ (kept_retire all k).0 in
            let next : Same n falls.0 lone = subst (λ h. Same n h lone) (sym mid) (other_retire n k ne all lone same) in
            let many : length falls.0.guests ≡ length all.guests =
            ap (λ (h : House). length h.guests) mid ∙ (kept_retire all k).1 in
            let rest = rw (ne_eqb k n ne) at alone in
            rw (ne_eqb k n ne) (same_after falls.0 all' lone lone' es answers [] falls.2 rest next
            (subst (λ c. AreGiven c es m) (sym many) known.1) (omega (arith, none)) none')
      ]
  same_after all all' lone lone' ((k, lines.Retire) ∷ es) (a ∷ answers) (b ∷ own) falls alone same known none none' =
      elim (cases_eq k n) [
        | inl o ↦
            let falls_n = subst (λ j. Falls all (Retiring j) a falls.0) o falls.1 in
            let here = whole all falls.0 (Retiring n) a falls_n (omega (arith, none)) in
            let rest = rw (eq-eqb k n o) at alone in
            let there = whole lone rest.0 (Retiring 0) b rest.1 (omega (arith, none')) in
            let both = both_retire n all lone same in
            let mid = here.1 ∙ (kept_retire all n).0 in
            let mid' = there.1 ∙ (kept_retire lone 0).0 in
            let next : Same n falls.0 rest.0 =
            subst (λ h. Same n h rest.0) (sym mid)
            (subst (λ h. Same n (turn_of all (Retiring n)).house h) (sym mid') both.1) in
            let many : length falls.0.guests ≡ length all.guests =
            ap (λ (h : House). length h.guests) mid ∙ (kept_retire all n).1 in
            let same_answer : a ≡ b = here.0 ∙ sym (both.0) ∙ sym there.0 in
            let later = same_after falls.0 all' rest.0 lone' es answers own falls.2 rest.2 next
            (subst (λ c. AreGiven c es m) (sym many) known.1) (omega (arith, none)) (omega (arith, none')) in
            rw (eq-eqb k n o) (λ i. same_answer i ∷ later i)
        | inr ne ↦
            let here = whole all falls.0 (Retiring k) a falls.1 (omega (arith, none)) in
            let mid = here.1 ∙ (kept_retire all k).0 in
            let next : Same n falls.0 lone = subst (λ h. Same n h lone) (sym mid) (other_retire n k ne all lone same) in
            let many : length falls.0.guests ≡ length all.guests =
            ap (λ (h : House). length h.guests) mid ∙ (kept_retire all k).1 in
            let rest = rw (ne_eqb k n ne) at alone in
            rw (ne_eqb k n ne) (same_after falls.0 all' lone lone' es answers (b ∷ own) falls.2 rest next
            (subst (λ c. AreGiven c es m) (sym many) known.1) (omega (arith, none)) none')
      ]
