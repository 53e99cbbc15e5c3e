use Rattle.pf_script.proofs.PrinterPut.{put_more}
use Rattle.pf_script.proofs.text.put_bytes_read.Goals as goal

pub returns : goal.returns
returns g c =
    let number = rw c.as_slice-bytes.ensures at c.put_number.ensures in
    let digits = rw c.as_slice-bytes.ensures at c.put_bytes.ensures in
    put_more (put_more (put_more c.put.ensures number) c.put-2.ensures) digits
