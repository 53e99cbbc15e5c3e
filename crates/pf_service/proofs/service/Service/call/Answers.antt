-- The place that was found is of the seat's namespace.
use Rattle.std.proofs.Common.{rules, arith}
use Rattle.pf_service.proofs.FaultLaws.{call_fault}
use Rattle.pf_service.proofs.LockLaws.{fault_there}
use Rattle.pf_service.proofs.service.Service.call.Goals as goal

pub call-requires : goal.call-requires
call-requires g c = search rules steps 1000000

pub returns-clause-kept : goal.returns-clause-kept
returns-clause-kept g c = search rules steps 1000000

pub returns-clause-told : goal.returns-clause-told
returns-clause-told g c = search rules steps 1000000

pub returns-clause-fault : goal.returns-clause-fault
returns-clause-fault g c =
    call_fault _ c.args.seat.now.ns c.call.result (omega (arith, c.in_ok-place.ensures.found.1, c.ns.ensures)) (fault_there _ c.call.result c.call.ensures.fault)
