-- The frames that a namespace owns are no more than its slots in use; and the lender knows how many they were at first.
use Rattle.std.proofs.Common.{ap, subst, ◌∙◌, arith}
use Rattle.pf_machine.specs.Machine.{Answers}
use Rattle.pf_base.specs.declared.step.Answer.TheVariants.{Done}
use Rattle.pf_base.specs.declared.step.Reply.{Reply}
use Rattle.pf_base.specs.declared.step.Step.TheVariants.{Resume}
use Rattle.pf_depot.specs.Loans.{loans_live}
use Rattle.pf_depot.specs.Lent.{loans_sound}
use Rattle.pf_tables.specs.Buffers.{Replied}
use Rattle.pf_tables.specs.Meaning.{meaning}
use Rattle.pf_hub.proofs.TenantLaws.{rising}
use Rattle.pf_worker.specs.Workers.{OneWorker}
use Rattle.pf_worker.proofs.GateLaws.{told_of_more}
use Rattle.pf_worker.proofs.worker.Worker.resume_into.Goals as goal

pub returns-clause-answers : goal.returns-clause-answers
returns-clause-answers g c =
    let told = c.resume_over.ensures.moved in
    subst (λ (w : OneWorker g.row.A.Denot). Replied (λ (reply : Reply). Answers w.tenant.limits (Done reply) w.tenant.state (Resume c.args.pid) (meaning (loans_live c.resume_over.new.loans) c.resume_over.new.placed.space.state)) c.resume_over.result c.args.buffer.now c.resume_over.new.buffer) c.self.view_is
    (record { reply = told.reply; is = told.is.answers; told_is = told.told_is; bytes_lie = told.bytes_lie })

pub returns-clause-rising : goal.returns-clause-rising
returns-clause-rising g c =
    rising (loans_live c.resume_over.new.loans) c.resume_over.new.placed.space (loans_sound c.resume_over.new.loans) c.resume_over.ensures.moved.is.owns

pub returns-clause-framed : goal.returns-clause-framed
returns-clause-framed g c = λ more.
    let made = c.resume_over.ensures in
    let number = ap (λ w. w.number) c.self.view_is in
    told_of_more g.G.Gate.framed c.args.gate.now c.args.self.now.number _ _ c.held-frames.result (loans_live c.resume_over.new.loans).held _
    c.holding-depot.ensures.gate (c.holding-depot.ensures.ns ∙ number) c.holding-depot.ensures.begun made.rest made.fact.3
    made.covered.held (omega (arith, c.held-frames.ensures, ap (λ w. w.tenant.held) c.self.view_is, more))
