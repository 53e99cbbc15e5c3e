-- Each event names a namespace, and goes on with the run.
use Rattle.std.proofs.lemmas.Grind.{common_steps}
use Rattle.std.proofs.Common.{arith, ℕ, ◌+◌, length, take, ap, sym, ◌∙◌, subst, rules, length-append, List, ◌∷◌, [], ◌++◌}
use Rattle.pf_base.specs.declared.step.Step.{Step}
use Rattle.pf_base.specs.declared.step.Answer.{Answer}
use Rattle.std.proofs.lemmas.List.{take_more}
use Rattle.pf_hub.specs.Isolation.{Ran}
use Rattle.pf_hub.proofs.RunLemmas.{at_next, lives_next}
use Rattle.pf_hub.proofs.TenantLaws.{is_covered, world_same}
use Rattle.pf_hub.proofs.hub.Hub.run.Goals as goal

pub returns-in-Some-clause-covered : goal.returns-in-Some-clause-covered
returns-in-Some-clause-covered g c = is_covered _ _ c.self.invariant (world_same c.self.view_is)

pub returns-in_default-with_capacity-clause-covered : goal.returns-in_default-with_capacity-clause-covered
returns-in_default-with_capacity-clause-covered g c = is_covered _ _ c.self.invariant (world_same c.self.view_is)

pub loop-event-init : goal.loop-event-init
loop-event-init g c = let covered = is_covered _ _ c.self.invariant (world_same c.self.view_is) in search rules

pub step_in-answer-requires : goal.step_in-answer-requires
step_in-answer-requires g c = record {
  lives =
      lives_next c.args.self.now.world c.loop-event.self.world c.args.events.now _ _ c.loop-event.event-index
      c.event-item.result (sym c.missing.ensures ∙ c.in_default.is) c.loop-event.invariant.ran c.loop-event-test.true
      c.event-item.is;
}

pub loop-event-preserved : goal.loop-event-preserved
loop-event-preserved g c =
    let e = c.event-item.result in
    let taken = take_more c.args.events.now c.loop-event.event-index e c.loop-event-test.true in
    let old = c.args.self.now.world in
    let new = c.step_in-answer.new.self.world in
    let before = take c.loop-event.event-index c.args.events.now in
    let told = c.loop-event.answers.items in
    let living =
    lives_next old c.loop-event.self.world c.args.events.now before told c.loop-event.event-index e
    (sym c.missing.ensures ∙ c.in_default.is) c.loop-event.invariant.ran c.loop-event-test.true c.event-item.is in
    let so =
    at_next old c.loop-event.self.world new before e told c.step_in-answer.result living c.loop-event.invariant.ran
    c.step_in-answer.ensures.stepped in
    record {
      ran =
          subst (λ (as' : List Answer). Ran old (take (c.loop-event.event-index + 1) c.args.events.now) as' new)
          (sym c.push_reserved.ensures.items)
          (subst (λ (es : List (ℕ × Step)). Ran old es (told ++ c.step_in-answer.result ∷ []) new)
          (sym (taken ∙ ap (λ (x : ℕ × Step). before ++ x ∷ []) (sym c.event-item.is))) so);
      made = ap length c.push_reserved.ensures.items ∙ length-append c.loop-event.answers.items (c.step_in-answer.result ∷ []) ∙ ap (λ n. n + 1) c.loop-event.invariant.made;
      room = search rules;
      allocators = c.step_in-answer.ensures.allocators ∙ c.loop-event.invariant.allocators;
      covered = c.step_in-answer.ensures.stepped.covered;
    }

pub returns-clause-ran : goal.returns-clause-ran
returns-clause-ran g c = grind (arith, common_steps)
