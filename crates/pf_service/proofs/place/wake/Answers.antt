-- Answers that soon fail where a wrong body breaks them.
use Rattle.std.proofs.Common.{rules}
use Rattle.pf_service.proofs.place.wake.Goals as goal

pub returns-then-not-is_idle-clause-woken : goal.returns-then-not-is_idle-clause-woken
returns-then-not-is_idle-clause-woken g c = search rules steps 100000

pub returns-else-not-is_idle-clause-awaited : goal.returns-else-not-is_idle-clause-awaited
returns-else-not-is_idle-clause-awaited g c = search rules steps 100000
