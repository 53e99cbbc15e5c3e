-- Answers that soon fail where a wrong body breaks them.
use Rattle.std.proofs.Common.{rules}
use Rattle.pf_play.proofs.run.chosen.Goals as goal

pub returns-in-Some-place-clause-names : goal.returns-in-Some-place-clause-names
returns-in-Some-place-clause-names c = search rules steps 100000
