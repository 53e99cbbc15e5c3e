-- Answers that soon fail where a wrong body breaks them.
use Rattle.std.proofs.lemmas.Grind.{common_steps}
use Rattle.std.proofs.Common.{arith}
use Rattle.pf_words.proofs.arguments.open_flags.Goals as goal

pub returns-then-eq-clause-read : goal.returns-then-eq-clause-read
returns-then-eq-clause-read c = grind (arith, common_steps)

pub returns-then-eq-4-clause-read : goal.returns-then-eq-4-clause-read
returns-then-eq-4-clause-read c = grind (arith, common_steps)
