-- Answers that soon fail where a wrong body breaks them.
use Rattle.std.proofs.Common.{rules}
use Rattle.pf_hub.proofs.hub.Hub.write_from.Goals as goal

pub returns-clause-answers : goal.returns-clause-answers
returns-clause-answers g c = search rules steps 100000
