-- Searches that end soon where there is no proof.
use Rattle.std.proofs.Common.{rules}
use Rattle.pf_tables.proofs.tables.transfers.kept.Goals as goal

pub returns-2-clause-bytes : goal.returns-2-clause-bytes
returns-2-clause-bytes c = search rules steps 200000
