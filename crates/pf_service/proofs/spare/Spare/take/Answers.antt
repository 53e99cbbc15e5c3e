-- What was kept, where it is enough, and else new memory for just as many bytes.
use Rattle.std.proofs.Common.{rules}
use Rattle.pf_service.proofs.spare.Spare.take.Goals as goal

pub returns-then-most-self-clause-enough : goal.returns-then-most-self-clause-enough
returns-then-most-self-clause-enough c = search rules steps 1000000

pub returns-clause-size : goal.returns-clause-size
returns-clause-size c = search rules steps 1000000
