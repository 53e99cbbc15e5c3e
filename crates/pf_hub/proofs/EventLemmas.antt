-- One event more of a list.

use Rattle.std.proofs.Common.{◌≡◌, List, [], ◌∷◌, ◌++◌, length, refl, ap, sym, ◌∙◌, subst}
use Rattle.std.proofs.Common.{arith, append-nil}
use Rattle.std.specs.Prelude.{Option}
use Rattle.std.proofs.lemmas.List.{length-map}
use Rattle.pf_base.specs.declared.admission.EventAnswer.{EventAnswer}
use Rattle.pf_machine.specs.Houses.{Happens, Happen}
use Rattle.pf_machine.proofs.HouseLaws.{happen_more, happen_many, all_own, all_alone}
use Rattle.pf_hub.specs.Covered.{IsCovered}
use Rattle.pf_hub.specs.Events.{event_of, events_of, allocators_by, allocators_after, RanEvents}
use Rattle.pf_hub.specs.Tenants.{Housed, house_of}
use Rattle.pf_hub.specs.declared.hub.events.Event.{Event}

module _ {Z : Type 0} where
  events_more : (es : List (Event Z)) (e : Event Z) → events_of (es ++ e ∷ []) ≡ events_of es ++ event_of e ∷ []
  events_more [] e = refl
  events_more (x ∷ es) e = ap (λ xs. event_of x ∷ xs) (events_more es e)

  allocators_more : (zs : List (Option Z)) (es : List (Event Z)) (e : Event Z) (answers : List EventAnswer)
      (a : EventAnswer) →
      length answers ≡ length es →
      allocators_after zs (es ++ e ∷ []) (answers ++ a ∷ []) ≡ allocators_by e a (allocators_after zs es answers)
  allocators_more zs [] e [] a many = refl
  allocators_more zs [] e (b ∷ answers) a many = absurd (omega (arith, many))
  allocators_more zs (x ∷ es) e [] a many = absurd (omega (arith, many))
  allocators_more zs (x ∷ es) e (b ∷ answers) a many =
      allocators_more (allocators_by x b zs) es e answers a (omega (arith, many))

  -- where none are left, those so far are all
  pub none_left : (so_far left all : List (Event Z)) → length left ≡ 0 → so_far ++ left ≡ all → so_far ≡ all
  none_left so_far [] all none is = sym (append-nil so_far) ∙ is
  none_left so_far (e ∷ left) all none is = absurd (omega (arith, none))

  -- what happened so far, and where the hub is
  pub record Ongoing (old : Housed Z) (events : List (Event Z)) (answers : List EventAnswer)
      (new : Housed Z) : Type 0 where
    pub happen : Happen (house_of old.world) (events_of events) answers (house_of new.world)
    pub allocators : new.allocators ≡ allocators_after old.allocators events answers
    pub covered : IsCovered new.world

  pub begins : (h : Housed Z) → IsCovered h.world → Ongoing h [] [] h
  begins h covered = record { happen = refl; allocators = refl; covered = covered }

  pub goes_on : (old mid new : Housed Z) (es : List (Event Z)) (e : Event Z) (answers : List EventAnswer)
      (a : EventAnswer) →
      Ongoing old es answers mid → Happens (house_of mid.world) (event_of e) a (house_of new.world) →
      new.allocators ≡ allocators_by e a mid.allocators → IsCovered new.world →
      Ongoing old (es ++ e ∷ []) (answers ++ a ∷ []) new
  goes_on old mid new es e answers a so happens allocators covered =
      let many : length answers ≡ length es =
      happen_many (house_of old.world) (house_of mid.world) (events_of es) answers so.happen
      ∙ length-map es event_of in
      record {
        happen =
            subst (λ xs. Happen (house_of old.world) xs (answers ++ a ∷ []) (house_of new.world))
            (sym (events_more es e))
            (happen_more (house_of old.world) (house_of mid.world) (house_of new.world) (events_of es) answers
            (event_of e) a so.happen happens);
        allocators = allocators ∙ ap (allocators_by e a) so.allocators
            ∙ sym (allocators_more old.allocators es e answers a many);
        covered = covered;
      }

  -- the isolation theorem follows
  pub ran : (old new : Housed Z) (events : List (Event Z)) (answers : List EventAnswer) →
      Ongoing old events answers new → RanEvents old events answers new
  ran old new events answers so = record {
    happen = so.happen;
    own = all_own (house_of old.world) (house_of new.world) (events_of events) answers so.happen;
    alone = all_alone (house_of old.world) (house_of new.world) (events_of events) answers so.happen;
    allocators = so.allocators;
    covered = so.covered;
  }
