use Rattle.pf_script.proofs.StepLineLaws.{each_step_has_a_line}
use Rattle.pf_script.proofs.laws.each_step_has_a_line.Goals as goal

pub returns : goal.returns
returns c = each_step_has_a_line c.each_step_is_read.ensures
