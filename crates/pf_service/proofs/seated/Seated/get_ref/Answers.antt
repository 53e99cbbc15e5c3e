-- Answers that soon fail where a wrong body breaks them.
use Rattle.std.proofs.Common.{rules}
use Rattle.pf_service.proofs.seated.Seated.get_ref.Goals as goal

pub returns-in-Retired-clause-fault : goal.returns-in-Retired-clause-fault
returns-in-Retired-clause-fault g c = search rules steps 100000
