-- Searches that end soon where there is no proof.
use Rattle.std.proofs.Common.{rules}
use Rattle.pf_tables.proofs.tables.opens.fifo.Goals as goal

pub returns-clause-gets : goal.returns-clause-gets
returns-clause-gets c = search rules steps 1000000
