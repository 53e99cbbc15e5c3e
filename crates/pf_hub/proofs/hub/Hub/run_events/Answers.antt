-- Nothing happened yet, or the events so far did, and so the isolation theorem holds of them.
use Rattle.std.proofs.Common.{◌≡◌, ◌≤◌, ◌+◌, List, [], ◌∷◌, ◌++◌, length, length-append, take, subst, ap, sym, ◌∙◌}
use Rattle.std.proofs.Common.{append_assoc, arith, rules}
use Rattle.pf_base.specs.declared.admission.EventAnswer.{EventAnswer}
use Rattle.pf_hub.specs.Events.{RanEvents}
use Rattle.pf_hub.proofs.EventLemmas.{Ongoing, begins, goes_on, none_left, ran}
use Rattle.pf_hub.proofs.TenantLaws.{is_covered, world_same}
use Rattle.pf_hub.proofs.hub.Hub.run_events.Goals as goal

pub returns-in_default-clause-fault : goal.returns-in_default-clause-fault
returns-in_default-clause-fault g c =
    let old = c.args.self.now in
    let events = c.args.events.items in
    let covered = is_covered _ _ c.self.invariant (world_same c.self.view_is) in
    subst (λ (as' : List EventAnswer). (length as' ≤ length events) × RanEvents old (take (length as') events) as' old)
    (sym c.new.ensures.items) (omega arith, ran old old [] [] (begins old covered))

pub loop-event-init : goal.loop-event-init
loop-event-init g c =
    let old = c.args.self.now in
    let none : c.in-Ok.answers.items ≡ [] = search rules in
    record {
      ongoing =
          subst (λ (as' : List EventAnswer). Ongoing old [] as' old) (sym none)
          (begins old (is_covered _ _ c.self.invariant (world_same c.self.view_is)));
      made = ap length none;
      all = search rules;
      room = search rules;
    }

pub loop-event-preserved : goal.loop-event-preserved
loop-event-preserved g c =
    let before = c.loop-event.yielded in
    let told = c.loop-event.answers.items in
    let next =
    goes_on c.args.self.now c.loop-event.self c.happen-answer.new.self before c.in-Some.event told
    c.happen-answer.result
    c.loop-event.invariant.ongoing c.happen-answer.ensures.happens c.happen-answer.ensures.allocators
    c.happen-answer.ensures.covered in
    let left = rw c.in-Some.ensures.steps.0 at c.loop-event.invariant.all in
    record {
      ongoing =
          subst (λ (as' : List EventAnswer). Ongoing c.args.self.now
          (before ++ c.in-Some.event ∷ []) as' c.happen-answer.new.self)
          (sym c.push_reserved.ensures.items) next;
      made =
          ap length c.push_reserved.ensures.items ∙ length-append told (c.happen-answer.result ∷ [])
          ∙ ap (λ n. n + 1) c.loop-event.invariant.made ∙ sym (length-append before (c.in-Some.event ∷ []));
      all = append_assoc before (c.in-Some.event ∷ []) c.next.new.self.rest.items ∙ left;
      room = search rules;
    }

pub returns-clause-ran : goal.returns-clause-ran
returns-clause-ran g c =
    let left = c.loop-event.event-iterator.rest in
    let none : length left.items ≡ 0 = omega (arith, left.ok, c.in-None.ensures.steps) in
    let all = none_left c.loop-event.yielded left.items c.args.events.items none c.loop-event.invariant.all in
    subst (λ es. RanEvents c.args.self.now es c.loop-event.answers.items c.loop-event.self) all
    (ran c.args.self.now c.loop-event.self c.loop-event.yielded c.loop-event.answers.items
    c.loop-event.invariant.ongoing)
