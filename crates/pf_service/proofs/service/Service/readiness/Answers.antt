-- The namespace is there, and nothing is told where it is retired.
use Rattle.std.proofs.Common.{arith}
use Rattle.pf_service.proofs.FaultLaws.{gone_alone, gone_fault}
use Rattle.pf_service.proofs.service.Service.readiness.Goals as goal

pub returns-clause-missing : goal.returns-clause-missing
returns-clause-missing g c = λ past. absurd (omega (arith, c.in_ok-place.ensures.found.1, past))

pub returns-clause-fault : goal.returns-clause-fault
returns-clause-fault g c = gone_fault _ _ _ c.in_ok-place.ensures.found.1 (gone_alone _ c.readiness.result c.readiness.ensures.fault)
