use Rattle.std.proofs.Common.{◌≡◌, rules}
use Rattle.pf_base.specs.declared.step.Answer.TheVariants.{Done}
use Rattle.pf_base.specs.declared.step.Step.TheVariants as steps
use Rattle.pf_depot.specs.Loans.{loans_live}
use Rattle.pf_hub.specs.Stepped.{Moved}
use Rattle.pf_hub.proofs.hub.resumes.resume_over.Goals as goal

pub returns-clause-moved : goal.returns-clause-moved
returns-clause-moved g c =
    let before = loans_live c.new-door.result.loans.now in
    let after = loans_live c.resume_into.new.door.loans.now in
    let told = c.resume_into.ensures.answers in
    let moved : Moved before after c.args.placed.now.space c.resume_into.new.self.space (steps.Resume c.args.pid) (Done told.reply) =
    record {
      owns = c.resume_into.ensures.owns;
      limits = c.resume_into.ensures.limits;
      answers = told.is;
      succeeds = λ _. tt;
    } in
    let here = rw c.new-door.ensures.loans at moved in
    let same : c.resume_into.new.door.loans.now ≡ c.loans-1.given.0 = search (c.loans-1.given.1, rules) in
    record { reply = told.reply; is = rw same at here; told_is = told.told_is; bytes_lie = told.bytes_lie }
