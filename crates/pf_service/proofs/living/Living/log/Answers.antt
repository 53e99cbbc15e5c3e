-- What it holds came from the lender, which knows how many frames that was at first.
use Rattle.std.proofs.Common.{arith}
use Rattle.pf_worker.proofs.GateLaws.{told_of_more}
use Rattle.pf_service.proofs.living.Living.log.Goals as goal

pub returns-clause-framed : goal.returns-clause-framed
returns-clause-framed g c = λ more.
    let made = c.log.ensures in
    told_of_more g.G.Gate.framed c.args.gate.now c.args.ns _ _ c.held-frames.result c.log.new.self.held _
    c.holding-depot.ensures.gate c.holding-depot.ensures.ns c.holding-depot.ensures.begun made.rest made.fact.3
    (omega arith) (omega (arith, more))
