-- Answers that soon fail where a wrong body breaks them.
use Rattle.std.proofs.Common.{rules}
use Rattle.pf_pipe.proofs.pipe.Pipe.add_end.Goals as goal

pub returns-in-Read : goal.returns-in-Read
returns-in-Read c = search rules steps 100000
