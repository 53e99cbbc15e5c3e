-- The number is one of those that there are, and behind its lock lies what was admitted.
use Rattle.std.proofs.Common.{rules, arith}
use Rattle.pf_service.proofs.PlaceLaws.{number_fits}
use Rattle.pf_service.proofs.opening.admit_by.Goals as goal

pub admit-requires : goal.admit-requires
admit-requires g c = omega (arith, number_fits _ _ _ _ c.in_ok-ns.ns c.in_ok-ns.ensures.0 c.in_ok-ns.ensures.2, c.lock-place.ensures.number)

pub returns-clause-number : goal.returns-clause-number
returns-clause-number g c = number_fits _ _ _ _ c.in_ok-ns.ns c.in_ok-ns.ensures.0 c.in_ok-ns.ensures.2

pub returns-clause-locked : goal.returns-clause-locked
returns-clause-locked g c = search rules steps 1000000

pub returns-clause-lodged : goal.returns-clause-lodged
returns-clause-lodged g c = search rules steps 1000000
