-- No seat of a namespace that isn't there was given; and each namespace that is there was looked at.
use Rattle.std.proofs.Common.{ℕ, ◌<◌, ◌≤◌, [], length, sym, subst, arith, refl, inl, inr}
use Rattle.std.proofs.lemmas.Bool.{cases_lt}
use Rattle.std.proofs.lemmas.List.{get_or_past}
use Rattle.std.proofs.lemmas.List.Elements.{All-from_get_or}
use Rattle.pf_service.specs.Seats.{OneSeat, IsGiven}
use Rattle.pf_service.proofs.SeatLaws.{refused_number}
use Rattle.pf_service.proofs.JudgeLaws.{none_given}
use Rattle.pf_service.proofs.given.are_given.Goals as goal

pub returns-then-ns-given : goal.returns-then-ns-given
returns-then-ns-given c = λ h.
    let s = c.seat-item.result in
    let given = c.args.given.now in
    let past : length given ≤ s.ns = omega arith in
    refused_number s.ns 0 c.args.seats.now c.loop-seat.seat-index s (omega arith) c.seat-item.is refl (omega arith)
    (subst (λ (n : ℕ). IsGiven s.ns n c.args.seats.now) (get_or_past given s.ns 0 past) (h s.ns))

pub returns : goal.returns
returns c = λ ns.
    let given = c.args.given.now in
    let seats = c.args.seats.now in
    let d : OneSeat = record { ns = 0; number = 0; events = []; spare = 0 } in
    elim (cases_lt ns (length given)) [
      | inl within ↦ c.loop-ns.invariant ns (omega arith)
      | inr past ↦
          subst (λ (n : ℕ). IsGiven ns n seats) (sym (get_or_past given ns 0 past))
          (none_given seats (length given) ns (All-from_get_or (λ (s : OneSeat). s.ns < length given) seats d (λ i lt. c.loop-seat.invariant i d (omega arith))) past)
    ]
