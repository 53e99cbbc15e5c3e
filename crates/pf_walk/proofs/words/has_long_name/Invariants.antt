use Rattle.std.proofs.Common.{◌≡◌, length}
use Rattle.pf_machine.specs.Paths.{components}
use Rattle.pf_walk.proofs.LongNames.{are_long}
use Rattle.pf_walk.proofs.words.has_long_name.Given as goal

abbrev pub invariant-loop-behind : goal.invariant-loop-behind
invariant-loop-behind l = are_long 255 (components l.rest) ≡ are_long 255 (components l.path)

abbrev pub decreases-loop-behind : goal.decreases-loop-behind
decreases-loop-behind l = length l.rest
