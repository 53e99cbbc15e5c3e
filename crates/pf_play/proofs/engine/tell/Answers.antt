-- A step and a retirement leave each name its own.
use Rattle.std.proofs.Common.{rules}
use Rattle.pf_play.proofs.engine.tell.Goals as goal

pub returns-in-Step-clause-trees : goal.returns-in-Step-clause-trees
returns-in-Step-clause-trees g c =
    λ trees were admits. c.step_if_living.ensures.trees trees c.args.numbers.now.items were

pub returns-in-Retire-clause-trees : goal.returns-in-Retire-clause-trees
returns-in-Retire-clause-trees g c = λ trees were admits. c.retire.ensures.trees trees c.args.numbers.now.items were

pub returns-in-Retire-clause-follows : goal.returns-in-Retire-clause-follows
returns-in-Retire-clause-follows g c = search rules steps 2000000
