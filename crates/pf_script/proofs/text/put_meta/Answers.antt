use Rattle.pf_script.proofs.PrinterPut.{put_more}
use Rattle.pf_script.proofs.text.put_meta.Goals as goal

pub returns : goal.returns
returns g c =
    let uid = rw c.from.ensures at c.put_number.ensures in
    let gid = rw c.from-2.ensures at c.put_number-2.ensures in
    put_more (put_more (put_more (put_more (put_more (put_more (put_more c.put.ensures c.put_kind.ensures) c.put-2.ensures) c.put_mode.ensures) c.put-3.ensures) uid) c.put-4.ensures) gid
