-- Answers that soon fail where a wrong body breaks them.
use Rattle.std.proofs.Common.{rules}
use Rattle.pf_play.proofs.program.play_input_threads.Goals as goal

pub returns-clause-gated : goal.returns-clause-gated
returns-clause-gated g c = search rules steps 500000

pub returns-clause-run : goal.returns-clause-run
returns-clause-run g c = search rules steps 500000
