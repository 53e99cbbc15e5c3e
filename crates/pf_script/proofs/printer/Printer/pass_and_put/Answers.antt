use Rattle.std.proofs.Common.{sym, ◌∙◌}
use Rattle.pf_script.proofs.PrinterPut.{put_more, failed_on}
use Rattle.pf_script.proofs.printer.Printer.pass_and_put.Goals as goal

pub returns-then-not-has_failed : goal.returns-then-not-has_failed
returns-then-not-has_failed g c = put_more c.pass.ensures.passed c.put_first.ensures

pub returns-else-not-has_failed : goal.returns-else-not-has_failed
returns-else-not-has_failed g c = failed_on c.args.text.now (sym c.has_failed.ensures ∙ c.if-not-has_failed.false) c.pass.ensures.passed
