use Rattle.pf_script.proofs.PrinterPut.{put_more}
use Rattle.pf_script.proofs.text.put_pid.Goals as goal

pub returns : goal.returns
returns g c =
    let pid = rw c.from.ensures at c.put_number.ensures in
    put_more c.put.ensures pid
