-- Answers that soon fail where a wrong body breaks them.
use Rattle.std.proofs.Common.{rules}
use Rattle.pf_script.proofs.read.place.Goals as goal

pub returns : goal.returns
returns c = search rules steps 500000
