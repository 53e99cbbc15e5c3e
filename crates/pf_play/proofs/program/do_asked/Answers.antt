-- Answers that soon fail where a wrong body breaks them.
use Rattle.std.proofs.Common.{rules}
use Rattle.pf_play.proofs.program.do_asked.Goals as goal

pub returns-then-not-asked-clause-run : goal.returns-then-not-asked-clause-run
returns-then-not-asked-clause-run g c = search rules steps 500000
