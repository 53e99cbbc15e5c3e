use Rattle.std.proofs.Common.{◌≡◌, length, take}
use Rattle.std.specs.Prelude.{All}
use Rattle.std.specs.List.{flat_map}
use Rattle.pf_service.specs.Marks.{IsMarked}
use Rattle.pf_service.specs.Merge.{Rises}
use Rattle.pf_service.specs.Seats.{lists_of}
use Rattle.pf_service.proofs.merge.is_merge.Given as goal

abbrev pub invariant-loop-seat : goal.invariant-loop-seat
invariant-loop-seat l = record {
  number : length l.marks.items ≡ length l.entries;
  marked : IsMarked l.entries l.marks.items (flat_map (λ es. es) (lists_of l.ns (take l.seat-index l.seats)));
  rising : All Rises (lists_of l.ns (take l.seat-index l.seats));
}
