-- Answers that soon fail where a wrong body breaks them.
use Rattle.std.proofs.Common.{rules}
use Rattle.pf_depot.proofs.depot.Depot.admit.Goals as goal

pub returns : goal.returns
returns c = search rules steps 100000

pub returns-then-reserve-self : goal.returns-then-reserve-self
returns-then-reserve-self c = search rules steps 100000
