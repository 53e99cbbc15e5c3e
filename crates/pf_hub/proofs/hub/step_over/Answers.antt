use Rattle.std.proofs.Common.{rules}
use Rattle.pf_depot.specs.Loans.{loans_live}
use Rattle.pf_hub.specs.Stepped.{Moved}
use Rattle.pf_hub.proofs.hub.step_over.Goals as goal

pub returns-clause-moved : goal.returns-clause-moved
returns-clause-moved g c =
    let before = loans_live c.new-door.result.loans.now in
    let after = loans_live c.step.new.door.loans.now in
    let moved : Moved before after c.args.placed.now.space c.step.new.self.space c.args.step.now c.step.result =
    record {
      owns = c.step.ensures.owns;
      limits = c.step.ensures.limits;
      answers = c.step.ensures.answers;
      succeeds = c.step.ensures.succeeds;
    } in
    let here = rw c.new-door.ensures.loans at moved in
    search (here, rules)
