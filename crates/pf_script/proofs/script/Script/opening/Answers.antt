use Rattle.pf_script.proofs.Soundness.{opened}
use Rattle.pf_script.proofs.script.Script.opening.Goals as goal

pub returns-clause-most : goal.returns-clause-most
returns-clause-most c = rw (← c.self.view_is) (opened _ _ _ c.self.invariant.known)
