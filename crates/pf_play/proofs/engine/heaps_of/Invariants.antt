use Rattle.std.proofs.Common.{◌≡◌, length}
use Rattle.std.specs.List.{All}
use Rattle.std.specs.Vec.{vec_capacity}
use Rattle.linked_list_allocator.specs.Region.{block_size}
use Rattle.pf_play.proofs.engine.heaps_of.Given as goal

abbrev pub invariant-loop : goal.invariant-loop
invariant-loop l = record {
  made : length l.heaps.items ≡ l.counter;
  room : vec_capacity l.heaps ≡ l.count;
  bytes : All (λ heap. heap.bytes ≡ block_size l.bytes) l.heaps.items;
}
