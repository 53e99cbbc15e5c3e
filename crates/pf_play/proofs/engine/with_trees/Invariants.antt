use Rattle.std.proofs.Common.{◌≡◌, length, take}
use Rattle.std.specs.Vec.{vec_capacity}
use Rattle.pf_hub.specs.Opening.{limits_of, allocators_of}
use Rattle.pf_play.proofs.engine.with_trees.Given as goal

abbrev pub invariant-loop-place : goal.invariant-loop-place
invariant-loop-place g l = record {
  room : vec_capacity l.configs ≡ length l.limits;
  made : length l.configs.items ≡ l.place;
  limits : limits_of l.configs.items ≡ take l.place l.limits;
  trees : allocators_of l.configs.items ≡ take l.place l.trees;
}
