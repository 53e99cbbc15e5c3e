use Rattle.std.proofs.Common.{◌≡◌, [], length}
use Rattle.std.specs.List.{All}
use Rattle.std.specs.Vec.{vec_capacity}
use Rattle.pf_script.proofs.steps.no_places.Given as goal

abbrev pub invariant-loop : goal.invariant-loop
invariant-loop l = record {
  made : length l.places.items ≡ l.counter;
  room : vec_capacity l.places ≡ 64;
  none : All (λ v. v.items ≡ []) l.places.items;
}
