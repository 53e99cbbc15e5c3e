-- Answers that soon fail where a wrong body breaks them.
use Rattle.std.proofs.Common.{rules}
use Rattle.pf_depot.proofs.depot.Depot.unstock.Goals as goal

pub loop-frame-preserved : goal.loop-frame-preserved
loop-frame-preserved c = search rules steps 500000
