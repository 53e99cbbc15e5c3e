use Rattle.std.proofs.Common.{rules, ◌≡◌, ℕ, ◌<◌, ◌+◌, ◌++◌, length, List, map, take, get_or, drop, sym, ap, ◌∙◌, arith, subst}
use Rattle.std.proofs.lemmas.List.{length-map, take_all}
use Rattle.pf_service.specs.Marks.{IsMarked}
use Rattle.pf_service.specs.Merge.{at, stands}
use Rattle.pf_service.specs.declared.event.Event.{Event}
use Rattle.pf_service.proofs.MergeSteps.{split_at, take_one, at_map, rises_more, falls}
use Rattle.pf_service.proofs.merge.mark_all.Goals as goal
use Rattle.pf_service.proofs.merge.mark_all.Goals.{then-event-least-via-then-event-least, then-event-least-via-else-event-least+then-not-mark}

pub returns-then-event-least-clause-refused : goal.returns-then-event-least-clause-refused
returns-then-event-least-clause-refused c = λ done rest marked rises each.
    let es = c.args.events.now in
    let i = c.loop-event.event-index in
    let e = c.event-item.result in
    let t = c.args.entries.now in
    let within : i < length es = omega arith in
    let here : get_or (map (λ (v : Event). v.place) es) i 0 ≡ e.place = at_map (λ (v : Event). v.place) es i e within c.event-item.is in
    elim c.then-event-least.branch [
      | then-event-least-via-then-event-least w ↦ falls (map (λ (v : Event). v.place) es) i c.loop-event.least e.place (omega (arith, length-map es (λ (v : Event). v.place))) rises c.loop-event.invariant.none c.loop-event.invariant.least here (omega arith)
      | then-event-least-via-else-event-least+then-not-mark w ↦
          w.if-not-mark.ensures.refused (done ++ take i es) (drop (i + 1) es ++ rest) (c.loop-event.invariant.marked done marked)
          (subst (λ (vs : List Event). at e.place vs ≡ stands t e.place) (split_at done es rest i e within c.event-item.is) (each e.place))
    ]

pub loop-event-preserved : goal.loop-event-preserved
loop-event-preserved c =
    let es = c.args.events.now in
    let i = c.loop-event.event-index in
    let e = c.event-item.result in
    let t = c.args.entries.now in
    let within : i < length es = omega arith in
    let here : get_or (map (λ (v : Event). v.place) es) i 0 ≡ e.place = at_map (λ (v : Event). v.place) es i e within c.event-item.is in
    record {
      number = search rules;
      marked = λ done was.
          subst (λ (vs : List Event). IsMarked t c.mark.new.marks.items vs) (take_one done es i e within c.event-item.is)
          (c.if-not-mark.ensures.marked (done ++ take i es) (c.loop-event.invariant.marked done was));
      rises = rises_more (map (λ (v : Event). v.place) es) i c.loop-event.least e.place c.loop-event.invariant.rises c.loop-event.invariant.least here (omega arith);
      none = λ z. absurd (omega arith);
      least = λ some. sym (ap (λ (n : ℕ). n + 1) (ap (λ (j : ℕ). get_or (map (λ (v : Event). v.place) es) j 0) (omega arith) ∙ here));
    }

pub returns-clause-marked : goal.returns-clause-marked
returns-clause-marked c = λ done was.
    subst (λ (vs : List Event). IsMarked c.args.entries.now c.loop-event.marks.items (done ++ vs)) (take_all c.loop-event.event-index c.args.events.now (omega arith))
    (c.loop-event.invariant.marked done was)
