use Rattle.pf_script.proofs.PrinterPut.{put_more}
use Rattle.pf_script.proofs.text.put_names_read.Goals as goal

pub returns : goal.returns
returns g c =
    let number = rw (c.count_names.ensures, c.as_slice-bytes.ensures) at c.put_number.ensures in
    let names = rw c.as_slice-bytes.ensures at c.put_names.ensures in
    put_more (put_more c.put.ensures number) names
