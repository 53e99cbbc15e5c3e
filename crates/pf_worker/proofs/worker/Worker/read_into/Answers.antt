-- The frames that a namespace owns are no more than its slots in use; and the lender knows how many they were at first.
use Rattle.std.proofs.lemmas.Grind.{common_steps}
use Rattle.std.proofs.Common.{ap, ◌∙◌, arith}
use Rattle.pf_depot.specs.Loans.{loans_live}
use Rattle.pf_depot.specs.Lent.{loans_sound}
use Rattle.pf_hub.proofs.TenantLaws.{rising}
use Rattle.pf_worker.proofs.GateLaws.{told_of_more}
use Rattle.pf_worker.proofs.worker.Worker.read_into.Goals as goal

pub returns-clause-rising : goal.returns-clause-rising
returns-clause-rising g c =
    rising (loans_live c.read_over.new.loans) c.read_over.new.placed.space (loans_sound c.read_over.new.loans) c.read_over.ensures.moved.owns

pub returns-clause-framed : goal.returns-clause-framed
returns-clause-framed g c = λ more.
    let made = c.read_over.ensures in
    let number = ap (λ w. w.number) c.self.view_is in
    told_of_more g.G.Gate.framed c.args.gate.now c.args.self.now.number _ _ c.held-frames.result (loans_live c.read_over.new.loans).held _
    c.holding-depot.ensures.gate (c.holding-depot.ensures.ns ∙ number) c.holding-depot.ensures.begun made.rest made.fact.3
    made.covered.held (omega (arith, c.held-frames.ensures, ap (λ w. w.tenant.held) c.self.view_is, more))

pub returns-clause-answers : goal.returns-clause-answers
returns-clause-answers g c = grind (arith, common_steps)
