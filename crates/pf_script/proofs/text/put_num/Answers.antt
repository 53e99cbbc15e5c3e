use Rattle.pf_script.proofs.PrinterPut.{put_more}
use Rattle.pf_script.proofs.text.put_num.Goals as goal

pub returns : goal.returns
returns g c = put_more c.put.ensures c.put_number.ensures
