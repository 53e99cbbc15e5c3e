-- Each line is told by what its name's number is, and goes on with what happened by name.
use Rattle.std.proofs.Common.{rules, ◌≡◌, ◌<◌, ◌+◌, ℕ, List, [], ◌∷◌, ◌++◌, length, take, drop, ap, sym, subst, ◌∙◌}
use Rattle.std.proofs.Common.{arith, refl, length-append}
use Rattle.std.specs.Prelude.{nat_eq, if◌then◌else◌}
use Rattle.std.specs.declared.alloc.Global.{Global}
use Rattle.std.specs.declared.vec.Vec.{Vec}
use Rattle.std.proofs.lemmas.List.{length-map, length-take}
use Rattle.std.proofs.Math.ListN.{drop_of_length-le}
use Rattle.pf_base.specs.Limits.{Limits}
use Rattle.pf_hub.specs.Tenants.{house_of}
use Rattle.pf_script.specs.Sound.{AreGiven}
use Rattle.pf_base.specs.declared.admission.EventAnswer.{EventAnswer}
use Rattle.pf_script.specs.Places.{lines_of}
use Rattle.pf_script.specs.Text.{answers_of}
use Rattle.pf_script.specs.declared.line.Line.{Line}
use Rattle.pf_script.specs.declared.told.Told.{Told}
use Rattle.pf_play.specs.Houses.{limits_of_name, first_house, opening_limits}
use Rattle.pf_play.proofs.ApartLaws.{apart_push, room_left, lists_are}
use Rattle.pf_play.proofs.EngineLaws.{take_all, next_of, taken_of}
use Rattle.pf_play.proofs.PlayLaws.{Running, runs_first, runs_on, given_next, limits_there, first_limits, new_house}
use Rattle.pf_play.proofs.PlayLaws.{housed}
use Rattle.pf_play.proofs.StayLaws.{settled}
use Rattle.pf_play.proofs.TreeLaws.{own_there, admits_next}
use Rattle.pf_play.proofs.engine.play_lines.Goals as goal

pub loop-event-init : goal.loop-event-init
unfolding answers_of
loop-event-init g c =
    let script = c.args.script.now in
    let ls : List Limits = opening_limits script in
    let many : length ls ≡ script.opening =
    length-map (take script.opening script.spaces) (λ (s : List ℕ × Limits). s.1)
    ∙ omega (arith, length-take script.opening script.spaces, c.requires.opening) in
    record {
      answers = [];
      running =
          runs_first script.spaces script.frames ls c.steps-lines.result.now c.args.numbers.now.items
          (house_of c.args.hub.now.world) (first_limits script.spaces script.opening)
          c.requires.numbers (rw many c.steps-lines.ensures.known)
          (ap house_of c.requires.opened ∙ new_house ls script.frames);
      many = refl;
      names = c.requires.many;
      apart = λ n d low. c.requires.none n d low;
      room = c.requires.room;
      numbers = c.requires.names;
      theirs = c.requires.theirs;
    }

pub bounds-trees-ns : goal.bounds-trees-ns
bounds-trees-ns g c =
    let e = c.event-item.result in
    let lines = c.steps-lines.result.now in
    let at = c.loop-event.event-index in
    let left : drop at lines ≡ e ∷ drop (at + 1) lines = next_of lines at e c.loop-event-test.true c.event-item.is in
    let known : AreGiven (length c.loop-event.numbers.items) (e ∷ drop (at + 1) lines) (length c.args.script.now.spaces) =
    subst (λ rest. AreGiven (length c.loop-event.numbers.items) rest (length c.args.script.now.spaces)) left
    c.loop-event.invariant.running.known in
    omega (arith, (given_next _ e _ _ known).0, c.requires.trees)

pub offset_bounds-trees-ns : goal.offset_bounds-trees-ns
offset_bounds-trees-ns g c =
    let e = c.event-item.result in
    let lines = c.steps-lines.result.now in
    let at = c.loop-event.event-index in
    let left : drop at lines ≡ e ∷ drop (at + 1) lines = next_of lines at e c.loop-event-test.true c.event-item.is in
    let known : AreGiven (length c.loop-event.numbers.items) (e ∷ drop (at + 1) lines) (length c.args.script.now.spaces) =
    subst (λ rest. AreGiven (length c.loop-event.numbers.items) rest (length c.args.script.now.spaces)) left
    c.loop-event.invariant.running.known in
    omega (arith, (given_next _ e _ _ known).0, c.requires.trees)

pub tell-answer-requires : goal.tell-answer-requires
tell-answer-requires g c =
    let e = c.event-item.result in
    let lines = c.steps-lines.result.now in
    let at = c.loop-event.event-index in
    let left : drop at lines ≡ e ∷ drop (at + 1) lines = next_of lines at e c.loop-event-test.true c.event-item.is in
    let known : AreGiven (length c.loop-event.numbers.items) (e ∷ drop (at + 1) lines) (length c.args.script.now.spaces) =
    subst (λ rest. AreGiven (length c.loop-event.numbers.items) rest (length c.args.script.now.spaces)) left
    c.loop-event.invariant.running.known in
    let next = given_next _ e _ _ known in
    record {
      exists = next.0;
      room = omega (arith, next.1, c.loop-event.invariant.numbers);
      few = omega (arith, next.1, c.requires.few);
    }

pub loop-event-preserved : goal.loop-event-preserved
loop-event-preserved g c =
    let script = c.args.script.now in
    let e = c.event-item.result in
    let lines = c.steps-lines.result.now in
    let at = c.loop-event.event-index in
    let old = c.loop-event.invariant.running in
    let left : drop at lines ≡ e ∷ drop (at + 1) lines = next_of lines at e c.loop-event-test.true c.event-item.is in
    let taken : take (at + 1) lines ≡ take at lines ++ e ∷ [] = taken_of lines at e c.loop-event-test.true c.event-item.is in
    let running : Running script.spaces (first_house script) (take at lines) (e ∷ drop (at + 1) lines)
    c.loop-event.numbers.items (house_of c.loop-event.hub.world) c.loop-event.invariant.answers = rw left at old in
    let next = given_next _ e _ _ running.known in
    let answers = c.loop-event.invariant.answers in
    let answer = c.tell-answer.result in
    let exists : e.0 < length c.loop-event.own.items = omega (arith, next.0, c.loop-event.invariant.names) in
    let follows = c.tell-answer.ensures.follows (limits_of_name script.spaces e.0) running.house
    (limits_there script.spaces e.0 next.0) running.named in
    record {
      answers = answers ++ answer ∷ [];
      running =
          rw taken
          (runs_on script.spaces (first_house script) (take at lines) (drop (at + 1) lines) e _ _ _ _ _ _ running
          c.tell-answer.ensures.number follows);
      many =
          length-append answers (answer ∷ []) ∙ ap (λ k. k + 1) c.loop-event.invariant.many
          ∙ sym (length-append (take at lines) (e ∷ [])) ∙ ap (λ (es : List (ℕ × Line)). length es) (sym taken);
      names = c.keep.ensures.many ∙ c.loop-event.invariant.names;
      apart = λ n d low.
          let low' : n < length c.loop-event.own.items = omega (arith, low, c.keep.ensures.many) in
          c.keep.ensures.kept n d low'
          ∙ (λ j. if nat_eq e.0 n then c.loop-event.invariant.apart n d low' j ++ answer ∷ []
          else c.loop-event.invariant.apart n d low' j)
          ∙ sym (ap (λ (es : List (ℕ × Line)). answers_of es (answers ++ answer ∷ []) n) taken
          ∙ apart_push (take at lines) e answers answer n c.loop-event.invariant.many);
      room = λ n d low.
          let low' : n < length c.loop-event.own.items = omega (arith, low, c.loop-event.invariant.names) in
          omega (arith, c.loop-event.invariant.room n d low, c.keep.ensures.room n d low');
      numbers = search rules;
      theirs = c.tell-answer.ensures.trees c.args.trees.now c.loop-event.invariant.theirs
          (λ admits.
          own_there c.args.trees.now e.0 (length c.loop-event.numbers.items) c.index-trees-ns.result
          (omega (arith, next.0, c.requires.trees)) c.index-trees-ns.is (admits_next _ e _ _ running.known admits));
    }

pub returns-clause-run : goal.returns-clause-run
returns-clause-run g c =
    let script = c.args.script.now in
    let lines = c.steps-lines.result.now in
    let all : take c.loop-event.event-index lines ≡ script.steps =
    take_all lines c.loop-event-test.false ∙ c.steps-lines.ensures.steps in
    let none : drop c.loop-event.event-index lines ≡ [] = drop_of_length-le lines c.loop-event-test.false in
    let running = rw (all, none) at c.loop-event.invariant.running in
    let answers = c.loop-event.invariant.answers in
    let played = settled script answers (housed script _ _ _ running)
    (rw c.steps-lines.ensures.steps at c.steps-lines.ensures.known)
    c.requires.opening in (
      answers,
      (
        length-map c.loop-event.own.items (λ (v : Vec Told Global). v.items) ∙ c.loop-event.invariant.names,
        c.loop-event.invariant.many ∙ ap (λ (es : List (ℕ × Line)). length es) all,
        λ n low.
            lists_are c.loop-event.own.items (answers_of (take c.loop-event.event-index lines) answers)
            c.loop-event.invariant.apart n (omega (arith, low, c.loop-event.invariant.names))
            ∙ ap (λ (es : List (ℕ × Line)). answers_of es answers n) all,
      ),
      played,
    )

pub returns-clause-told : goal.returns-clause-told
returns-clause-told g c =
    let script = c.args.script.now in
    let lines = c.steps-lines.result.now in
    let all : take c.loop-event.event-index lines ≡ script.steps =
    take_all lines c.loop-event-test.false ∙ c.steps-lines.ensures.steps in
    let running = rw all at c.loop-event.invariant.running in
    let answers = c.loop-event.invariant.answers in (
      answers,
      (
        length-map c.loop-event.own.items (λ (v : Vec Told Global). v.items) ∙ c.loop-event.invariant.names,
        c.loop-event.invariant.many ∙ ap (λ (es : List (ℕ × Line)). length es) all,
        λ n low.
            lists_are c.loop-event.own.items (answers_of (take c.loop-event.event-index lines) answers)
            c.loop-event.invariant.apart n (omega (arith, low, c.loop-event.invariant.names))
            ∙ ap (λ (es : List (ℕ × Line)). answers_of es answers n) all,
      ),
      running.house,
      running.going.fall,
      running.named,
    )

pub keep-requires : goal.keep-requires
keep-requires g c =
    let e = c.event-item.result in
    let lines = c.steps-lines.result.now in
    let at = c.loop-event.event-index in
    let known : AreGiven (length c.loop-event.numbers.items) (e ∷ drop (at + 1) lines) (length c.args.script.now.spaces) =
    subst (λ rest. AreGiven (length c.loop-event.numbers.items) rest (length c.args.script.now.spaces))
    (next_of lines at e c.loop-event-test.true c.event-item.is) c.loop-event.invariant.running.known in
    let named = (given_next _ e _ _ known).0 in
    let low : e.0 < length c.loop-event.own.items = omega (arith, named, c.loop-event.invariant.names) in
    record {
      exists = low;
      room = λ d. omega (
        arith,
        room_left lines at e c.loop-event.invariant.answers c.loop-event-test.true c.event-item.is c.loop-event.invariant.many,
        ap (λ (xs : List EventAnswer). length xs) (c.loop-event.invariant.apart e.0 d low),
        ap (λ (es : List (ℕ × Line)). length (lines_of es e.0)) c.steps-lines.ensures.steps,
        c.loop-event.invariant.room e.0 d named,
      );
    }
