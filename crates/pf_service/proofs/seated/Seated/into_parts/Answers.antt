-- Answers that soon fail where a wrong body breaks them.
use Rattle.std.proofs.Common.{rules}
use Rattle.pf_service.proofs.seated.Seated.into_parts.Goals as goal

pub returns-clause-given : goal.returns-clause-given
returns-clause-given g c = search rules steps 20000
