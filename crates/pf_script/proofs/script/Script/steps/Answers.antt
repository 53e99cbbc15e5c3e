use Rattle.pf_script.proofs.Soundness.{none_strays}
use Rattle.pf_script.proofs.script.Script.steps.Goals as goal

pub returns-clause-exist : goal.returns-clause-exist
returns-clause-exist c = rw (c.as_slice.ensures, ← c.self.view_is) (none_strays _ _ _ 0 c.self.invariant.known)
