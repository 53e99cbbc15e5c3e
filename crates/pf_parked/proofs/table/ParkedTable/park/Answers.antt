-- Answers that soon fail where a wrong body breaks them.
use Rattle.std.proofs.Common.{rules}
use Rattle.pf_parked.proofs.table.ParkedTable.park.Goals as goal

pub returns : goal.returns
returns g c = search rules steps 500000
