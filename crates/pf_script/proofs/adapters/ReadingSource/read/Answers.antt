-- Answers that soon fail where a wrong body breaks them.
use Rattle.std.proofs.Common.{rules}
use Rattle.pf_script.proofs.adapters.ReadingSource.read.Goals as goal

pub returns-in-Err-clause-failures : goal.returns-in-Err-clause-failures
returns-in-Err-clause-failures g c = search rules steps 100000

pub returns-in-Ok-clause-bound : goal.returns-in-Ok-clause-bound
returns-in-Ok-clause-bound g c = search rules steps 500000
