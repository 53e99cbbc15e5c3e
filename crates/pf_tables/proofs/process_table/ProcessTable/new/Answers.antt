use Rattle.pf_tables.proofs.ProcessTable.{bare_watched}
use Rattle.pf_tables.proofs.process_table.ProcessTable.new.Goals as goal

pub invariant_of-result : goal.invariant_of-result
invariant_of-result c = bare_watched _ _ c.new-waiting.ensures c.in_ok-places.ensures
