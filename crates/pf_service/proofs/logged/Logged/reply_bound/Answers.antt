-- A bound over the frames of any door is one over its own loans.
use Rattle.std.proofs.Common.{◌≤◌, subst}
use Rattle.pf_base.specs.Limits.{Limits}
use Rattle.pf_machine.specs.Machine.{step_of}
use Rattle.pf_machine.specs.Replies.{reply_length}
use Rattle.pf_depot.specs.Loans.{loans_live}
use Rattle.pf_depot.specs.Lent.{loans_sound}
use Rattle.pf_tables.specs.Meaning.{meaning}
use Rattle.pf_service.specs.Log.{Log}
use Rattle.pf_service.proofs.logged.Logged.reply_bound.Goals as goal

pub returns-clause-covers : goal.returns-clause-covers
returns-clause-covers g c =
    let own = c.self.inside in
    let step = c.args.step.now in
    let covers = c.reply_bound.ensures.covers (loans_live own.loans) (loans_sound own.loans) c.self.invariant.owns in
    let given = subst (λ (l : Limits). reply_length (step_of l (meaning (loans_live own.loans) own.placed.space.state) step).reply ≤ c.reply_bound.result) c.self.invariant.limits covers in
    subst (λ (l : Log g.row.A.Denot). reply_length (step_of l.limits l.state step).reply ≤ c.reply_bound.result) c.self.view_is given
