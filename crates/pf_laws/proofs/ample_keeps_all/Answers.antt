use Rattle.pf_machine.proofs.EventLaws.{kept-mine}
use Rattle.pf_laws.proofs.ample_keeps_all.Goals as goal

pub returns : goal.returns
returns c = kept-mine
