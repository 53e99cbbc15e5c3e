use Rattle.std.proofs.Common.{◌≡◌}
use Rattle.pf_pool.specs.Pool.{namespaces_of}
use Rattle.pf_part_trials.proofs.pool.borrow_in_turn.Given as goal

abbrev pub invariant-loop-round : goal.invariant-loop-round
invariant-loop-round l = namespaces_of l.pool ≡ 2
