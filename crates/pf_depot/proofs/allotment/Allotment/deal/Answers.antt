use Rattle.std.proofs.Common.{rules}
use Rattle.pf_depot.proofs.AllLoansLaws.{unheld_idle}
use Rattle.pf_depot.proofs.allotment.Allotment.deal.Goals as goal

pub invariant_of-result-clause-idle : goal.invariant_of-result-clause-idle
invariant_of-result-clause-idle g c = unheld_idle c.args.loans c.requires.none

pub invariant_of-result-clause-reserved : goal.invariant_of-result-clause-reserved
invariant_of-result-clause-reserved g c = search rules steps 100000

pub invariant_of-result-clause-parts : goal.invariant_of-result-clause-parts
invariant_of-result-clause-parts g c = search rules steps 100000
