-- Answers that soon fail where a wrong body breaks them.
use Rattle.std.proofs.Common.{rules}
use Rattle.pf_hub.proofs.hub.Hub.read_into.Goals as goal

pub returns-clause-lies : goal.returns-clause-lies
returns-clause-lies g c = search rules steps 100000
