use Rattle.std.proofs.Common.{◌≡◌, ◌+◌, length, nat_eq}
use Rattle.std.specs.List.{count_by}
use Rattle.pf_walk.proofs.slashes.slashes.Given as goal

abbrev pub invariant-loop-rest : goal.invariant-loop-rest
invariant-loop-rest l = l.count + count_by (λ b. nat_eq b 47) l.rest ≡ count_by (λ b. nat_eq b 47) l.text

abbrev pub decreases-loop-rest : goal.decreases-loop-rest
decreases-loop-rest l = length l.rest
