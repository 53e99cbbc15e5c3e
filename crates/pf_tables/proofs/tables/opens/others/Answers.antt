-- Searches that end soon where there is no proof.
use Rattle.std.proofs.Common.{rules}
use Rattle.pf_tables.proofs.tables.opens.others.Goals as goal

pub returns-in-Some-get : goal.returns-in-Some-get
returns-in-Some-get c = search rules steps 200000
