use Rattle.std.proofs.Common.{◌≡◌, length}
use Rattle.std.specs.Vec.{vec_capacity}
use Rattle.pf_refusals.proofs.scripts.frames_of.Given as goal

abbrev pub invariant-loop : goal.invariant-loop
invariant-loop l = record {
  made : length l.frames.items ≡ l.counter;
  room : vec_capacity l.frames ≡ l.count;
}
