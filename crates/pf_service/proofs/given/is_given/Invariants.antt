use Rattle.std.proofs.Common.{◌≡◌, length, take}
use Rattle.pf_service.specs.Marks.{IsCounted}
use Rattle.pf_service.proofs.given.is_given.Given as goal

abbrev pub invariant-loop-seat : goal.invariant-loop-seat
invariant-loop-seat l = record {
  number : length l.marks.items ≡ l.given;
  counted : IsCounted l.ns l.marks.items (take l.seat-index l.seats);
}
