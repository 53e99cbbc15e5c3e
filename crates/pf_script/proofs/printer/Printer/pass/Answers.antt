-- Answers that soon fail where a wrong body breaks them.
use Rattle.std.proofs.Common.{rules}
use Rattle.pf_script.proofs.printer.Printer.pass.Goals as goal

pub returns-else-is_err-clause-empty : goal.returns-else-is_err-clause-empty
returns-else-is_err-clause-empty g c = search rules steps 100000
