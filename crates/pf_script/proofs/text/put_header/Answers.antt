use Rattle.pf_script.proofs.PrinterPut.{put_more}
use Rattle.pf_script.proofs.text.put_header.Goals as goal

pub returns : goal.returns
returns g c = put_more (put_more c.put.ensures c.put-2.ensures) c.put-3.ensures
