-- Answers that soon fail where a wrong body breaks them.
use Rattle.std.proofs.Common.{rules}
use Rattle.pf_play.proofs.program.play_input.Goals as goal

pub returns : goal.returns
returns g c = search rules steps 500000
