-- Past the transcripts there are no seats either.
use Rattle.std.proofs.Common.{rules, length, arith, inl, inr}
use Rattle.std.proofs.lemmas.Bool.{cases_lt}
use Rattle.pf_service.specs.Seats.{AreGiven}
use Rattle.pf_service.proofs.JudgeLaws.{past}
use Rattle.pf_service.proofs.judge.compare.Goals as goal

pub returns-clause-agree : goal.returns-clause-agree
returns-clause-agree c = λ n.
    let ts = c.args.transcripts.now in
    let all : AreGiven c.args.given.now c.args.seats.now = search rules in
    elim (cases_lt n (length ts)) [
      | inl within ↦ c.loop-ns.invariant n (omega arith)
      | inr over ↦ past c.args.configs.now ts c.args.seats.now c.args.given.now all c.requires.each (omega arith) n over
    ]
