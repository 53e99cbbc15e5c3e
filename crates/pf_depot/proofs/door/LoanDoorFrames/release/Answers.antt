use Rattle.std.proofs.Common.{rules, arith}
use Rattle.pf_depot.proofs.PlacesLaws.{some_held}
use Rattle.pf_depot.proofs.door.LoanDoorFrames.release.Goals as goal

pub give-requires-clause-out : goal.give-requires-clause-out
give-requires-clause-out g c = omega (arith, some_held c.args.self.now.loans.now.counts.items c.args.no c.requires.is_live, c.requires.fact.1.held)

pub give-requires-clause-single : goal.give-requires-clause-single
give-requires-clause-single g c = search rules steps 100000
