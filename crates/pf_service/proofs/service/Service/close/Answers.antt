-- Which transcripts lay behind the locks isn't said.
use Rattle.pf_service.proofs.JudgeLaws.{closed_fault}
use Rattle.pf_service.proofs.service.Service.close.Goals as goal

pub returns-clause-fault : goal.returns-clause-fault
returns-clause-fault g c = closed_fault _ c.args.self c.args.seats.items c.close_by.result c.close_by.ensures.fault
