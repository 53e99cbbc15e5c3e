use Rattle.std.proofs.lemmas.Grind.{common_steps}
use Rattle.std.proofs.Common.{arith, ◌∙◌}
use Rattle.std.proofs.lemmas.List.{take_all}
use Rattle.pf_depot.proofs.AllLoansLaws.{unnamed}
use Rattle.pf_depot.proofs.depot.loans_of.Goals as goal

pub returns : goal.returns
returns c =
    let all = c.loop-reserve.invariant.made ∙ take_all c.loop-reserve.reserve-index c.args.reserves.now (omega arith) in
    unnamed c.loop-reserve.loans.items c.args.reserves.now all c.loop-reserve.invariant.unnamed

pub loop-reserve-preserved : goal.loop-reserve-preserved
loop-reserve-preserved c = grind (arith, common_steps)
