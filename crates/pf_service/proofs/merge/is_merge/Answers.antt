use Rattle.std.proofs.Common.{rules, ◌≡◌, ℕ, ◌+◌, ◌++◌, List, length, take, drop, true, false, Bool, nat_eq, sym, ap, ◌∙◌, subst, arith, Vec, Global}
use Rattle.std.specs.Prelude.{All}
use Rattle.std.proofs.lemmas.List.{take_all}
use Rattle.std.proofs.lemmas.List.Elements.{All-push}
use Rattle.pf_service.specs.Marks.{IsMarked}
use Rattle.pf_service.specs.Merge.{at, stands, Rises}
use Rattle.pf_service.specs.Seats.{OneSeat, lists_of}
use Rattle.pf_service.specs.declared.event.Event.{Event}
use Rattle.pf_service.proofs.MergeLaws.{joined, joined-push, more_mine, more_other, around, seen_from, answers}
use Rattle.pf_service.proofs.merge.is_merge.Goals as goal
use Rattle.pf_service.proofs.merge.is_merge.Goals.{else-ns-via-then-ns+else-not-mark_all, else-ns-via-else-ns}

pub returns-then-not-mark_all : goal.returns-then-not-mark_all
returns-then-not-mark_all c = λ m.
    let t = c.args.entries.now in
    let seats = c.args.seats.now in
    let i = c.loop-seat.seat-index in
    let s = c.seat-item.result in
    let before = lists_of c.args.ns (take i seats) in
    let after = lists_of c.args.ns (drop (i + 1) seats) in
    let mine : nat_eq s.ns c.args.ns ≡ true = subst (λ (n : ℕ). nat_eq n c.args.ns ≡ true) c.ns.ensures (search rules) in
    let whole = seen_from t (lists_of c.args.ns seats) before s.events after (around c.args.ns seats i s (omega arith) c.seat-item.is mine) m in
    c.if-not-mark_all.ensures.refused (joined before) (joined after) c.loop-seat.invariant.marked
    (subst Rises (sym c.events.ensures) whole.0)
    (λ j. subst (λ (es : List Event). at j (joined before ++ es ++ joined after) ≡ stands t j) (sym c.events.ensures) (whole.1 j))

pub loop-seat-preserved : goal.loop-seat-preserved
loop-seat-preserved c =
    let t = c.args.entries.now in
    let seats = c.args.seats.now in
    let ns = c.args.ns in
    let i = c.loop-seat.seat-index in
    let s = c.seat-item.result in
    let before = lists_of ns (take i seats) in
    elim c.else-ns.branch [
      | else-ns-via-then-ns+else-not-mark_all w ↦
          let mine : nat_eq s.ns ns ≡ true = subst (λ (n : ℕ). nat_eq n ns ≡ true) c.ns.ensures (search rules) in
          let more = more_mine ns seats i s (omega arith) c.seat-item.is mine in
          record {
            number = search rules;
            marked =
                subst (λ (ls : List (List Event)). IsMarked t c.else-ns.marks.items (joined ls)) (sym more)
                (subst (IsMarked t c.else-ns.marks.items) (sym (joined-push before s.events))
                (subst (λ (es : List Event). IsMarked t c.else-ns.marks.items (joined before ++ es)) w.events.ensures
                (subst (λ (ms : List Bool). IsMarked t ms (joined before ++ w.events.result.now)) (ap (λ (v : Vec Bool Global). v.items) (sym w.marks-is))
                (w.if-not-mark_all.ensures.marked (joined before) c.loop-seat.invariant.marked))));
            rising = subst (All Rises) (sym more) (All-push Rises before s.events c.loop-seat.invariant.rising (subst Rises w.events.ensures w.if-not-mark_all.ensures.rises));
          }
      | else-ns-via-else-ns w ↦
          let other : nat_eq s.ns ns ≡ false = subst (λ (n : ℕ). nat_eq n ns ≡ false) c.ns.ensures (search rules) in
          let more = more_other ns seats i s (omega arith) c.seat-item.is other in
          record {
            number = search rules;
            marked = subst (λ (ls : List (List Event)). IsMarked t c.else-ns.marks.items (joined ls)) (sym more)
                (subst (λ (ms : List Bool). IsMarked t ms (joined before)) (ap (λ (v : Vec Bool Global). v.items) (sym w.marks-is)) c.loop-seat.invariant.marked);
            rising = subst (All Rises) (sym more) c.loop-seat.invariant.rising;
          }
    ]

pub returns : goal.returns
returns c =
    let t = c.args.entries.now in
    let ls = lists_of c.args.ns c.args.seats.now in
    let whole = take_all c.loop-seat.seat-index c.args.seats.now (omega arith) in
    let is = c.deref.ensures.value in
    answers t ls c.deref.result.now c.all_marked.result
    (ap length is ∙ c.loop-seat.invariant.number)
    (subst (λ (ms : List Bool). IsMarked t ms (joined ls)) (sym is) (subst (λ (ss : List OneSeat). IsMarked t c.loop-seat.marks.items (joined (lists_of c.args.ns ss))) whole c.loop-seat.invariant.marked))
    (subst (λ (ss : List OneSeat). All Rises (lists_of c.args.ns ss)) whole c.loop-seat.invariant.rising)
    c.all_marked.ensures.all c.all_marked.ensures.not
