use Rattle.pf_script.proofs.PrinterPut.{put_more}
use Rattle.pf_script.proofs.transcript.put_line.Goals as goal

pub returns-clause-put : goal.returns-clause-put
returns-clause-put g c =
    let number = rw (c.digits.ensures, c.step.ensures) at c.put.ensures in
    put_more (put_more (put_more number c.put-2.ensures) c.put_at.ensures) c.put-3.ensures
