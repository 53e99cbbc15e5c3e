use Rattle.std.proofs.Common.{◌≡◌, length, rules}
use Rattle.pf_base.specs.declared.step.Step.TheVariants as steps
use Rattle.pf_depot.specs.Loans.{loans_live}
use Rattle.pf_tables.specs.Buffers.{answer_in}
use Rattle.pf_hub.specs.Stepped.{Moved}
use Rattle.pf_hub.proofs.hub.reads.read_over.Goals as goal

pub returns-clause-moved : goal.returns-clause-moved
returns-clause-moved g c =
    let before = loans_live c.new-door.result.loans.now in
    let after = loans_live c.read_into.new.door.loans.now in
    let moved : Moved before after c.args.placed.now.space c.read_into.new.self.space (steps.Read c.args.pid c.args.fd (length c.args.buffer.now)) (answer_in c.read_into.new.buffer c.read_into.result) =
    record {
      owns = c.read_into.ensures.owns;
      limits = c.read_into.ensures.limits;
      answers = c.read_into.ensures.answers;
      succeeds = λ _. tt;
    } in
    let here = rw c.new-door.ensures.loans at moved in
    let same : c.read_into.new.door.loans.now ≡ c.loans-1.given.0 = search (c.loans-1.given.1, rules) in
    rw same at here
