-- Without want of memory what happens is a function of the house and of the events.

use Rattle.std.proofs.Common.{◌≡◌, List, [], ◌∷◌, ap, sym, ◌∙◌, subst, arith, inl, inr, refl}
use Rattle.pf_base.specs.declared.admission.EventAnswer.{EventAnswer}
use Rattle.pf_machine.specs.Houses.{House, Event, Turn, Stepping, Admitting, Retiring, Happens, Wants, turn_of}
use Rattle.pf_play.specs.Houses.{Falls, Fall, keep_place}
use Rattle.pf_play.specs.Plays.{nomem_in, nomem_of}

-- whoever wants memory is counted
counted : (old : House) (e : Event) (a : EventAnswer) → Wants old e a → nomem_in a ≡ 1
counted old (Stepping n s) a wants = ap nomem_in wants.0
counted old (Admitting limits) a wants = ap nomem_in wants.0
counted old (Retiring n) a wants = absurd wants

-- so where nothing is counted, an event does as where memory never runs out
turned : (old new : House) (e : Event) (a : EventAnswer) → Happens old e a new → nomem_in a ≡ 0 →
    ◌≡◌ {A = Turn} (record { house = new; answer = a }) (turn_of old e)
turned old new e a happens none = elim happens.turn [
  | inl same ↦ same
  | inr wants ↦ absurd (omega (arith, none, counted old e a wants.0))
]

falls_same : (old new new' : House) (e : Event) (a b : EventAnswer) → Falls old e a new → Falls old e b new' →
    nomem_in a ≡ 0 → nomem_in b ≡ 0 → (a ≡ b) × (new ≡ new')
falls_same old new new' e a b falls falls' none none' =
    let same : ◌≡◌ {A = Turn} (record { house = falls.0; answer = a }) (record { house = falls'.0; answer = b }) =
    turned old falls.0 e a falls.1 none ∙ sym (turned old falls'.0 e b falls'.1 none') in (
      ap (λ (t : Turn). t.answer) same,
      falls.2 ∙ ap (λ (t : Turn). keep_place t.house t.answer) same ∙ sym falls'.2,
    )

-- two lists of answers to the same events are one
pub fall_same : (old new new' : House) (es : List Event) (answers others : List EventAnswer) → Fall old es answers new →
    Fall old es others new' → 0 ≡ nomem_of answers → 0 ≡ nomem_of others → answers ≡ others
fall_same old new new' [] [] [] falls falls' none none' = refl
fall_same old new new' [] [] (b ∷ others) falls falls' none none' = absurd falls'
fall_same old new new' [] (a ∷ answers) others falls falls' none none' = absurd falls
fall_same old new new' (e ∷ es) [] others falls falls' none none' = absurd falls
fall_same old new new' (e ∷ es) (a ∷ answers) [] falls falls' none none' = absurd falls'
fall_same old new new' (e ∷ es) (a ∷ answers) (b ∷ others) falls falls' none none' =
    let here = falls_same old falls.0 falls'.0 e a b falls.1 falls'.1 (omega (arith, none)) (omega (arith, none')) in
    let rest = fall_same falls'.0 new new' es answers others
    (subst (λ h. Fall h es answers new) here.1 falls.2) falls'.2 (omega (arith, none)) (omega (arith, none')) in
    λ i. here.0 i ∷ rest i

-- what an event leaves then
pub whole : (old new : House) (e : Event) (a : EventAnswer) → Falls old e a new → nomem_in a ≡ 0 →
    (a ≡ (turn_of old e).answer) × (new ≡ keep_place (turn_of old e).house (turn_of old e).answer)
whole old new e a falls none =
    let same = turned old falls.0 e a falls.1 none in (
      ap (λ (t : Turn). t.answer) same,
      falls.2 ∙ ap (λ (t : Turn). keep_place t.house t.answer) same,
    )
