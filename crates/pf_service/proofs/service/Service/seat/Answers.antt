-- The namespace is there, and what lay behind its lock isn't said.
use Rattle.std.proofs.Common.{rules}
use Rattle.pf_service.proofs.FaultLaws.{seat_fault}
use Rattle.pf_service.proofs.service.Service.seat.Goals as goal

pub returns-clause-fault : goal.returns-clause-fault
returns-clause-fault g c = seat_fault _ _ _ c.seat.result c.in_ok-place.ensures.found.1 c.seat.ensures.fault

pub returns-clause-seat : goal.returns-clause-seat
returns-clause-seat g c = search rules steps 500000
