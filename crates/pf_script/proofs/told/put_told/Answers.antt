-- Answers that soon fail where a wrong body breaks them.
use Rattle.std.proofs.Common.{rules}
use Rattle.pf_script.proofs.told.put_told.Goals as goal

pub returns-in-Fds : goal.returns-in-Fds
returns-in-Fds g c = search rules steps 500000
