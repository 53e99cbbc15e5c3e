-- What `log` does.
use Rattle.std.proofs.Common.{rules}
use Rattle.pf_service.proofs.logged.Logged.apply.Goals as goal

pub returns-clause-logged : goal.returns-clause-logged
returns-clause-logged g c = search rules steps 1000000

pub returns-clause-told : goal.returns-clause-told
returns-clause-told g c = search rules steps 1000000

pub returns-clause-fact : goal.returns-clause-fact
returns-clause-fact g c = search rules steps 1000000

pub returns-clause-ready : goal.returns-clause-ready
returns-clause-ready g c = search rules steps 1000000
