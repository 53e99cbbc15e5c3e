-- The name's lines are told as those of the one name that there is, and the others are passed by.
use Rattle.std.proofs.Common.{◌≡◌, ◌+◌, ◌<◌, ℕ, List, [], ◌∷◌, ◌++◌, length, take, drop, ap, subst, ◌∙◌, arith, refl}
use Rattle.std.specs.Prelude.{Some}
use Rattle.std.proofs.Math.ListN.{drop_of_length-le}
use Rattle.pf_hub.specs.Tenants.{house_of}
use Rattle.pf_play.specs.Houses.{alone, limits_of_name, lone_limits}
use Rattle.pf_script.specs.Places.{lines_of}
use Rattle.pf_script.specs.declared.line.Line.{Line}
use Rattle.pf_play.proofs.AnsweredLaws.{answered}
use Rattle.pf_play.proofs.ApartLaws.{lines_left}
use Rattle.pf_play.proofs.EngineLaws.{take_all, next_of, taken_of}
use Rattle.pf_play.proofs.PlayLaws.{given_next, housed}
use Rattle.pf_play.proofs.StayLaws.{settled_alone}
use Rattle.pf_play.proofs.TreeLaws.{own_there, admits_next}
use Rattle.pf_play.proofs.AloneLaws.{RunningAlone, alone_first, alone_limits, alone_many, alone_next, alone_on, alone_by, alone_one}
use Rattle.pf_play.proofs.engine.play_lines_alone.Goals as goal
use Rattle.pf_play.proofs.engine.play_lines_alone.Goals.{then-event-ns, else-event-ns}

pub loop-event-init : goal.loop-event-init
loop-event-init g c =
    let script = c.args.script.now in
    record {
      running =
          rw (c.requires.none, c.steps-lines.ensures.steps)
          (alone_first script c.args.ns (lone_limits script c.args.ns) c.args.numbers.now.items (house_of c.args.hub.now.world)
          c.requires.exists (rw c.steps-lines.ensures.steps at c.steps-lines.ensures.known) refl c.requires.numbers
          (ap house_of c.requires.opened));
      names = c.requires.names;
      room = c.requires.room;
      theirs = c.requires.theirs;
    }

pub tell-answer-requires : goal.tell-answer-requires
tell-answer-requires g c =
    let e = c.event-item.result in
    let lines = c.steps-lines.result.now in
    let at = c.loop-event.event-index in
    let left : drop at lines ≡ e ∷ drop (at + 1) lines = next_of lines at e c.loop-event-test.true c.event-item.is in
    let old : RunningAlone c.args.script.now c.args.ns (take at lines) (e ∷ drop (at + 1) lines) c.loop-event.numbers.items
    (house_of c.loop-event.hub.world) c.loop-event.answers.items = rw left at c.loop-event.invariant.running in
    let running = alone_next c.args.script.now c.args.ns (take at lines) (drop (at + 1) lines) e c.loop-event.numbers.items
    (house_of c.loop-event.hub.world) c.loop-event.answers.items c.if-event-ns.true old in
    let next = given_next _ (0, e.1) _ _ running.known in
    let one = alone_one c.args.script.now c.args.ns c.requires.exists in
    record {
      exists = c.requires.exists;
      room = omega (arith, next.1, one, c.loop-event.invariant.names);
      few = omega (arith, next.1, one);
    }

pub push_reserved-requires : goal.push_reserved-requires
push_reserved-requires g c =
    let e = c.event-item.result in
    let lines = c.steps-lines.result.now in
    let at = c.loop-event.event-index in
    let n = c.args.ns in
    let many = alone_many c.args.script.now n (take at lines) (drop at lines) c.loop-event.numbers.items
    (house_of c.loop-event.hub.world) c.loop-event.answers.items c.loop-event.invariant.running in
    let left : length (lines_of (take at lines) n) < length (lines_of lines n) =
    subst (λ m. length (lines_of (take at lines) m) < length (lines_of lines m)) c.if-event-ns.true
    (lines_left lines at e c.loop-event-test.true c.event-item.is) in
    omega (
      arith,
      many,
      left,
      ap (λ (es : List (ℕ × Line)). length (lines_of es n)) c.steps-lines.ensures.steps,
      c.loop-event.invariant.room,
    )

pub loop-event-preserved : goal.loop-event-preserved
loop-event-preserved g c =
    let script = c.args.script.now in
    let n = c.args.ns in
    let e = c.event-item.result in
    let lines = c.steps-lines.result.now in
    let at = c.loop-event.event-index in
    let left : drop at lines ≡ e ∷ drop (at + 1) lines = next_of lines at e c.loop-event-test.true c.event-item.is in
    let taken : take (at + 1) lines ≡ take at lines ++ e ∷ [] = taken_of lines at e c.loop-event-test.true c.event-item.is in
    let old : RunningAlone script n (take at lines) (e ∷ drop (at + 1) lines) c.loop-event.numbers.items
    (house_of c.loop-event.hub.world) c.loop-event.answers.items = rw left at c.loop-event.invariant.running in
    elim c.if-event-ns.branch [
      | then-event-ns w ↦
          let running = alone_next script n (take at lines) (drop (at + 1) lines) e c.loop-event.numbers.items
          (house_of c.loop-event.hub.world) c.loop-event.answers.items w.if-event-ns.true old in
          let follows = w.tell-answer.ensures.follows (limits_of_name (alone script n).spaces 0) running.house
          (alone_limits script.spaces n c.requires.exists) running.named in
          record {
            running =
                rw (w.hub-is, w.numbers-is, w.answers-is, w.push_reserved.ensures.items, taken)
                (alone_on script n (take at lines) (drop (at + 1) lines) e c.loop-event.numbers.items
                (house_of c.loop-event.hub.world) c.loop-event.answers.items _ _ _ w.if-event-ns.true running
                w.tell-answer.ensures.number follows);
            names = rw (w.numbers-is, w.tell-answer.ensures.room) c.loop-event.invariant.names;
            room = rw (w.answers-is, w.push_reserved.ensures.capacity) c.loop-event.invariant.room;
            theirs = rw (w.hub-is, w.numbers-is)
                (w.tell-answer.ensures.trees c.args.trees.now c.loop-event.invariant.theirs
                (λ admits.
                own_there c.args.trees.now 0 (length c.loop-event.numbers.items) c.index-trees-0.result
                (omega (arith, c.requires.one)) c.index-trees-0.is (admits_next _ (0, e.1) _ _ running.known admits)));
          }
      | else-event-ns w ↦ record {
        running = rw (w.hub-is, w.numbers-is, w.answers-is, taken)
            (alone_by script n (take at lines) (drop (at + 1) lines) e c.loop-event.numbers.items
            (house_of c.loop-event.hub.world) c.loop-event.answers.items w.if-event-ns.false old);
        names = rw w.numbers-is c.loop-event.invariant.names;
        room = rw w.answers-is c.loop-event.invariant.room;
        theirs = rw (w.hub-is, w.numbers-is) c.loop-event.invariant.theirs;
      }
    ]

pub returns-clause-run : goal.returns-clause-run
returns-clause-run g c =
    let script = c.args.script.now in
    let lines = c.steps-lines.result.now in
    let all : take c.loop-event.event-index lines ≡ script.steps =
    take_all lines c.loop-event-test.false ∙ c.steps-lines.ensures.steps in
    let none : drop c.loop-event.event-index lines ≡ [] = drop_of_length-le lines c.loop-event-test.false in
    let running = rw (all, none) at c.loop-event.invariant.running in
    let answers = c.loop-event.answers.items in
    let played = settled_alone script c.args.ns answers (housed (alone script c.args.ns) _ _ _ running)
    (rw c.steps-lines.ensures.steps at c.steps-lines.ensures.known) c.requires.exists in (
      answers,
      (refl, refl, answered script (Some c.args.ns) answers c.requires.exists played),
      played,
    )

pub returns-clause-told : goal.returns-clause-told
returns-clause-told g c =
    let script = c.args.script.now in
    let lines = c.steps-lines.result.now in
    let all : take c.loop-event.event-index lines ≡ script.steps =
    take_all lines c.loop-event-test.false ∙ c.steps-lines.ensures.steps in
    let none : drop c.loop-event.event-index lines ≡ [] = drop_of_length-le lines c.loop-event-test.false in
    let running = rw (all, none) at c.loop-event.invariant.running in
    let answers = c.loop-event.answers.items in
    let played = settled_alone script c.args.ns answers (housed (alone script c.args.ns) _ _ _ running)
    (rw c.steps-lines.ensures.steps at c.steps-lines.ensures.known) c.requires.exists in (
      answers,
      (refl, refl, answered script (Some c.args.ns) answers c.requires.exists played),
      running.house,
      running.going.fall,
      running.named,
    )
