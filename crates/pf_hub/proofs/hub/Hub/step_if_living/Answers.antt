-- A step of who lives is the machine's.
use Rattle.std.proofs.Common.{sym, ◌∙◌}
use Rattle.pf_hub.proofs.HouseLemmas.{stepped_happens}
use Rattle.pf_hub.proofs.hub.Hub.step_if_living.Goals as goal

pub returns-then-lives-clause-happens : goal.returns-then-lives-clause-happens
returns-then-lives-clause-happens g c =
    stepped_happens c.args.self.now.world c.step_in.new.self.world c.args.ns c.args.step.now c.step_in.result
    (sym c.lives.ensures.living ∙ c.if-lives.true) c.step_in.ensures.stepped
