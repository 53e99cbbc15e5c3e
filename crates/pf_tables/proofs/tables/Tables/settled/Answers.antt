use Rattle.pf_tables.proofs.TablesSettled.{settled}
use Rattle.pf_tables.proofs.tables.Tables.settled.Goals as goal

pub returns : goal.returns
returns g c = rw (← c.self.view_is) (settled _ _ c.self.invariant.kept.tied)
