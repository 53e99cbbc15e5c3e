use Rattle.std.proofs.Common.{rules, ◌≡◌, ◌+◌, ◌<◌, ◌≤◌, [], ◌∷◌, ◌++◌, length, refl, sym, ap, ◌∙◌, subst, arith, below_more, ℕ, List, get_or}
use Rattle.std.proofs.lemmas.List.{map_push}
use Rattle.pf_base.specs.declared.admission.EventAnswer.{EventAnswer}
use Rattle.pf_base.specs.declared.admission.EventAnswer.TheVariants as told
use Rattle.std.specs.Prelude.{false, not, slice_index}
use Rattle.std.specs.List.{list_any}
use Rattle.pf_play.specs.Played.{is_step}
use Rattle.pf_script.specs.declared.line.Line.{Line}
use Rattle.pf_script.specs.declared.line.Line.TheVariants as lines
use Rattle.pf_script.specs.Places.{places_of}
use Rattle.pf_script.proofs.Places.{within}
use Rattle.pf_play.specs.Workers.{ArePassed}
use Rattle.pf_play.proofs.WorkLaws.{all_steps, works_none, works_on, works_all, works_framed}
use Rattle.pf_play.proofs.threads.make_steps.Goals as goal

pub loop-at-init : goal.loop-at-init
loop-at-init g c = record {
  passed = λ place low. absurd (omega (arith, low));
  answered = λ before is. absurd (omega (arith, is));
  own = [];
  told = c.in_ok-answers.ensures.items;
  works = works_none (g.T.Turns.framed c.args.turns.now) c.args.script.now c.args.worker.now [] c.requires refl;
  many = search rules;
  room = search rules;
}

pub bounds-steps-at : goal.bounds-steps-at
bounds-steps-at g c =
    let at_place : c.places-places.result.now ≡ places_of c.args.script.now.steps c.number-ns.result
    = c.places-places.ensures in
    let low : c.loop-at.at-index < length (places_of c.args.script.now.steps c.number-ns.result)
    = subst (λ (ps : List ℕ). c.loop-at.at-index < length ps) at_place c.loop-at-test.true in
    let there : slice_index (places_of c.args.script.now.steps c.number-ns.result) c.loop-at.at-index < length
    c.steps-steps.result.now
    = within c.args.script.now.steps (length c.steps-steps.result.now) c.number-ns.result
    (ap (λ (es : List (ℕ × Line)). length es) c.steps-steps.ensures.steps) c.loop-at.at-index 0 low in
    subst (λ (ps : List ℕ). slice_index ps c.loop-at.at-index < length c.steps-steps.result.now) (sym at_place) there

pub unreachable-requires : goal.unreachable-requires
unreachable-requires g c =
    let at_place : c.places-places.result.now ≡ places_of c.args.script.now.steps c.number-ns.result
    = c.places-places.ensures in
    let low : c.loop-at.at-index < length (places_of c.args.script.now.steps c.number-ns.result)
    = subst (λ (ps : List ℕ). c.loop-at.at-index < length ps) at_place c.loop-at-test.true in
    let there : slice_index (places_of c.args.script.now.steps c.number-ns.result) c.loop-at.at-index < length
    c.steps-steps.result.now
    = within c.args.script.now.steps (length c.steps-steps.result.now) c.number-ns.result
    (ap (λ (es : List (ℕ × Line)). length es) c.steps-steps.ensures.steps) c.loop-at.at-index 0 low in
    let here : slice_index c.places-places.result.now c.loop-at.at-index < length c.steps-steps.result.now
    = subst (λ (ps : List ℕ). slice_index ps c.loop-at.at-index < length c.steps-steps.result.now) (sym at_place) there in
    let only : list_any (λ (e : ℕ × Line). not (is_step e.1)) c.steps-steps.result.now ≡ false =
    ap (list_any (λ (e : ℕ × Line). not (is_step e.1))) c.steps-steps.ensures.steps ∙ c.requires.0 in
    let made = all_steps c.steps-steps.result.now (slice_index c.places-places.result.now c.loop-at.at-index)
    c.index-steps-at.result only here in
    c.in_default.not-Step made.0 made.1

pub loop-at-preserved : goal.loop-at-preserved
loop-at-preserved g c =
    let n = c.args.worker.now.number in
    let at_place : c.places-places.result.now ≡ places_of c.args.script.now.steps n = c.places-places.ensures
    ∙ ap (λ m. places_of c.args.script.now.steps m) c.number-ns.ensures in
    let low : c.loop-at.at-index < length (places_of c.args.script.now.steps n)
    = subst (λ (ps : List ℕ). c.loop-at.at-index < length ps) at_place c.loop-at-test.true in
    let at = slice_index c.places-places.result.now c.loop-at.at-index in
    let same_at : at ≡ slice_index (places_of c.args.script.now.steps n) c.loop-at.at-index
    = ap (λ (ps : List ℕ). slice_index ps c.loop-at.at-index) at_place in
    let e = c.index-steps-at.result in
    let step = c.in-Step.step in
    let here : (get_or c.args.script.now.steps at e).1 ≡ lines.Step step
    = ap (λ (es : List (ℕ × Line)). (get_or es at e).1) (sym c.steps-steps.ensures.steps) ∙ c.in-Step.is in
    let passed = g.T.Turns.passed c.args.turns.now in
    let placed : c.len-place.result ≡ c.loop-at.at-index = omega (arith, c.loop-at.answers.ok.0) in
    let gated = subst (λ place. passed n place) placed
    (subst (λ m. passed m c.len-place.result) c.number-ns.ensures c.pass.ensures) in
    let answered = subst (λ m. g.T.Turns.answered c.args.turns.now m c.len-place.result) c.loop-at.invariant.works.number
    c.step-answer.ensures.answered in
    record {
      passed = below_more _ _ c.loop-at.invariant.passed gated;
      answered = λ before is.
          let here : c.len-place.result ≡ before = omega (arith, placed, is) in
          subst (λ place. g.T.Turns.answered c.args.turns.now n place) here answered;
      own = c.loop-at.invariant.own ++ c.step-answer.result ∷ [];
      told = rw (c.push_reserved.ensures.items, c.new.ensures)
          (ap (λ (xs : List EventAnswer). xs ++ told.Answer c.step-answer.result ∷ []) c.loop-at.invariant.told
          ∙ sym (map_push told.Answer c.loop-at.invariant.own c.step-answer.result));
      works = works_on (g.T.Turns.framed c.args.turns.now) c.args.script.now n c.loop-at.at-index e c.loop-at.invariant.own c.step-answer.result
          c.loop-at.worker c.step-answer.new.worker at step c.requires.0 c.loop-at.invariant.works low same_at here
          c.step-answer.ensures.number c.step-answer.ensures.limits c.step-answer.ensures.answers
          c.step-answer.ensures.succeeds c.step-answer.ensures.rising c.step-answer.ensures.framed;
      many = search rules;
      room = search rules;
    }

pub returns : goal.returns
returns g c =
    let at_place : c.places-places.result.now ≡ places_of c.args.script.now.steps c.args.worker.now.number
    = c.places-places.ensures ∙ ap (λ m. places_of c.args.script.now.steps m) c.number-ns.ensures in
    let past = subst (λ (ps : List ℕ). length ps ≤ c.loop-at.at-index) at_place c.loop-at-test.false in
    let all = works_all (g.T.Turns.framed c.args.turns.now) c.args.script.now c.args.worker.now.number c.loop-at.at-index
    c.loop-at.invariant.own c.loop-at.worker c.requires.0 c.loop-at.invariant.works past in
    let fed = works_framed (g.T.Turns.framed c.args.turns.now) c.args.script.now c.args.worker.now.number c.loop-at.at-index
    c.loop-at.invariant.own c.loop-at.worker c.requires.0 c.loop-at.invariant.works past in (
      (c.loop-at.invariant.own, c.loop-at.invariant.told, all),
      subst (λ number. ArePassed (g.T.Turns.passed c.args.turns.now) c.args.worker.now.number number)
          (sym c.loop-at.invariant.many) c.loop-at.invariant.passed,
      (c.loop-at.invariant.own, c.loop-at.invariant.told, fed),
    )

pub pass-requires : goal.pass-requires
pass-requires g c = record {
  turn = λ before is.
      let placed : c.loop-at.at-index ≡ before + 1 = omega (arith, c.loop-at.answers.ok.0, is) in
      subst (λ m. g.T.Turns.answered c.args.turns.now m before) (sym c.number-ns.ensures)
      (c.loop-at.invariant.answered before placed);
}
