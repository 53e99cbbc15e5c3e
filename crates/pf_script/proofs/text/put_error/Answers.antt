use Rattle.pf_script.proofs.PrinterPut.{put_more}
use Rattle.pf_script.proofs.text.put_error.Goals as goal

pub returns : goal.returns
returns g c =
    let name = rw (c.as_bytes.ensures.value, c.name.ensures) at c.put-2.ensures in
    put_more c.put.ensures name
