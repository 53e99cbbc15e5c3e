-- Answers that soon fail where a wrong body breaks them.
use Rattle.std.proofs.Common.{rules}
use Rattle.pf_words.proofs.arguments.number_32.Goals as goal

pub returns-clause-none : goal.returns-clause-none
returns-clause-none g c = search rules steps 100000
