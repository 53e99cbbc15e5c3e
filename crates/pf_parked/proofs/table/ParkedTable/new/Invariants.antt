use Rattle.std.proofs.Common.{◌≡◌, replicate, None, vec_len, vec_capacity}
use Rattle.pf_base.specs.declared.TheConstants.{MAX_PROCESSES}
use Rattle.pf_parked.proofs.table.ParkedTable.new.Given as goal

abbrev pub invariant-loop-n : goal.invariant-loop-n
invariant-loop-n g l = (l.calls.items ≡ replicate l.n None) × (vec_len l.calls ≡ l.n) × (vec_capacity l.calls ≡ MAX_PROCESSES)
