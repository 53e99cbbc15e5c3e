use Rattle.pf_script.proofs.PrinterPut.{put_more}
use Rattle.pf_script.proofs.text.put_fds.Goals as goal

pub returns : goal.returns
returns g c =
    let a = rw c.from.ensures at c.put_number.ensures in
    let b = rw c.from-2.ensures at c.put_number-2.ensures in
    put_more (put_more (put_more c.put.ensures a) c.put-2.ensures) b
