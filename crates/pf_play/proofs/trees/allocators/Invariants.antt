use Rattle.std.proofs.Common.{◌≡◌, length, map, take}
use Rattle.std.specs.Vec.{vec_capacity}
use Rattle.pf_play.proofs.trees.allocators.Given as goal

abbrev pub invariant-loop-place : goal.invariant-loop-place
invariant-loop-place l = record {
  room : vec_capacity l.trees ≡ length l.heaps;
  made : length l.trees.items ≡ l.place;
  same : map (λ t. t.now) l.trees.items ≡ map (λ h. h.heap) (take l.place l.heaps);
}
