-- The limits so far, and room for the others.
use Rattle.std.proofs.Common.{◌≡◌, length, map, take}
use Rattle.std.specs.Vec.{vec_capacity}
use Rattle.pf_c.specs.Opened.{limits_in}
use Rattle.pf_hub.specs.Opening.{limits_of}
use Rattle.pf_c.proofs.opening.configs_of.Given as goal

abbrev pub invariant-loop-limit : goal.invariant-loop-limit
invariant-loop-limit l = record {
  made : limits_of l.configs.items ≡ map limits_in (take l.limit-index l.fn.limits);
  so_far : length l.configs.items ≡ l.limit-index;
  room : vec_capacity l.configs ≡ length l.fn.limits;
}
