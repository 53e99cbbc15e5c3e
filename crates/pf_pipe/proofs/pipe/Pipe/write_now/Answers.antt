-- Answers that soon fail where a wrong body breaks them.
use Rattle.std.proofs.lemmas.Grind.{common_steps}
use Rattle.std.proofs.Common.{arith, rules}
use Rattle.pf_pipe.proofs.pipe.Pipe.write_now.Goals as goal

pub returns-then-self-eq0-clause-passes : goal.returns-then-self-eq0-clause-passes
returns-then-self-eq0-clause-passes g c = grind (arith, common_steps)

pub returns-then-number-eq0-clause-door : goal.returns-then-number-eq0-clause-door
returns-then-number-eq0-clause-door g c = grind (arith, common_steps)

pub returns-clause-passes : goal.returns-clause-passes
returns-clause-passes g c = grind (arith, common_steps)

pub returns-clause-door : goal.returns-clause-door
returns-clause-door g c = search rules steps 500000
