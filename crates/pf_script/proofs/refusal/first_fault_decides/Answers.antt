use Rattle.pf_script.proofs.ScriptLemmas.{first_fault}
use Rattle.pf_script.proofs.refusal.first_fault_decides.Goals as goal

pub returns : goal.returns
returns c = first_fault
