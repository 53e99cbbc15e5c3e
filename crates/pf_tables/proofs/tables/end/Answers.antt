-- Searches that end soon where there is no proof.
use Rattle.std.proofs.Common.{rules}
use Rattle.pf_tables.proofs.tables.end.Goals as goal

pub returns : goal.returns
returns c = search rules steps 200000
