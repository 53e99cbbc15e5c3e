use Rattle.std.proofs.Common.{rules}
use Rattle.pf_base.specs.declared.step.Step.TheVariants as steps
use Rattle.pf_depot.specs.Loans.{loans_live}
use Rattle.pf_hub.specs.Stepped.{Moved}
use Rattle.pf_hub.proofs.hub.transfers.write_over.Goals as goal

pub returns-clause-moved : goal.returns-clause-moved
returns-clause-moved g c =
    let before = loans_live c.new-door.result.loans.now in
    let after = loans_live c.write_from.new.door.loans.now in
    let moved : Moved before after c.args.placed.now.space c.write_from.new.self.space (steps.Write c.args.pid c.args.fd c.args.bytes.now) c.write_from.result =
    record {
      owns = c.write_from.ensures.owns;
      limits = c.write_from.ensures.limits;
      answers = c.write_from.ensures.answers;
      succeeds = c.write_from.ensures.succeeds;
    } in
    let here = rw c.new-door.ensures.loans at moved in
    search (here, rules)
