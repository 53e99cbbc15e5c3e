use Rattle.std.proofs.Common.{rules}
use Rattle.pf_tables.proofs.ProcessesDrop.{begins, begins_not}
use Rattle.pf_tables.proofs.tables.Tables.begin_exit.Goals as goal

pub returns-in_err-living-clause-begins : goal.returns-in_err-living-clause-begins
returns-in_err-living-clause-begins g c =
    let refused = begins_not _ _ _ c.self.view_is _ _ c.in_err-living.ensures in
    search rules

pub returns-clause-begins : goal.returns-clause-begins
returns-clause-begins g c =
    begins _ _ _ c.self.view_is _ c.in_ok-living.ensures _ c.end_wait.ensures.namespace c.end_wait.ensures.swept
