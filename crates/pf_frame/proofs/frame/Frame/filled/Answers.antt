-- Answers that soon fail where a wrong body breaks them.
use Rattle.std.proofs.Common.{rules}
use Rattle.pf_frame.proofs.frame.Frame.filled.Goals as goal

pub returns : goal.returns
returns c = search rules steps 500000
