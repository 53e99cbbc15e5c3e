use Rattle.std.proofs.Common.{◌≡◌, List, length, Bool, sym, ap, ◌∙◌, subst, arith}
use Rattle.std.proofs.lemmas.List.{take_all}
use Rattle.std.proofs.lemmas.Grind.{common_steps}
use Rattle.pf_service.specs.Marks.{IsCounted}
use Rattle.pf_service.proofs.SeatLaws.{refused_seen, refused_number, given_answers}
use Rattle.pf_service.proofs.given.is_given.Goals as goal
use Rattle.pf_service.proofs.given.is_given.Goals.{then-number-len-via-then-number-len, then-number-len-via-else-number-len+then-index}

pub returns-then-number-len : goal.returns-then-number-len
returns-then-number-len c =
    let i = c.loop-seat.seat-index in
    let s = c.seat-item.result in
    let marks = c.loop-seat.marks.items in
    let mine : s.ns ≡ c.args.ns = omega arith in
    elim c.then-number-len.branch [
      | then-number-len-via-then-number-len w ↦ refused_number c.args.ns c.args.given c.args.seats.now i s (omega arith) c.seat-item.is mine (grind (arith, common_steps))
      | then-number-len-via-else-number-len+then-index w ↦ refused_seen c.args.ns c.args.given marks c.args.seats.now i s (omega arith) c.seat-item.is mine c.loop-seat.invariant.number (grind (arith, common_steps)) (grind (arith, common_steps)) c.loop-seat.invariant.counted
    ]

pub returns : goal.returns
returns c =
    let whole = take_all c.loop-seat.seat-index c.args.seats.now (omega arith) in
    let is = c.deref.ensures.value in
    given_answers c.args.ns c.args.given c.deref.result.now c.args.seats.now c.all_marked.result
    (ap length is ∙ c.loop-seat.invariant.number)
    (subst (λ (ms : List Bool). IsCounted c.args.ns ms c.args.seats.now) (sym is) (subst (IsCounted c.args.ns c.loop-seat.marks.items) whole c.loop-seat.invariant.counted))
    c.all_marked.ensures.all c.all_marked.ensures.not
