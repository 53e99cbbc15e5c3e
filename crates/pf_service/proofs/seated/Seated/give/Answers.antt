-- Answers that soon fail where a wrong body breaks them.
use Rattle.std.proofs.Common.{rules}
use Rattle.pf_service.proofs.seated.Seated.give.Goals as goal

pub returns-clause-room : goal.returns-clause-room
returns-clause-room g c = search rules steps 100000

pub returns-clause-number : goal.returns-clause-number
returns-clause-number g c = search rules steps 100000

pub returns-in-Retired-clause-room : goal.returns-in-Retired-clause-room
returns-in-Retired-clause-room g c = search rules steps 100000

pub returns-clause-awaited : goal.returns-clause-awaited
returns-clause-awaited g c = search rules steps 100000
