use Rattle.pf_script.proofs.PrinterPut.{ended_well, cut_off_by}
use Rattle.pf_script.proofs.transcript.print_either.Goals as goal

pub returns-clause-written : goal.returns-clause-written
returns-clause-written g c =
    let put = rw c.new-out.ensures at c.put_text.ensures in
    ended_well c.finish.result _ put c.finish.ensures.written

pub returns-clause-cut : goal.returns-clause-cut
returns-clause-cut g c =
    let put = rw c.new-out.ensures at c.put_text.ensures in
    cut_off_by c.finish.result _ put c.finish.ensures.fault
