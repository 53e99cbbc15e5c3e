use Rattle.pf_script.proofs.PrinterPut.{put_more}
use Rattle.pf_script.proofs.notice.put_notice_line.Goals as goal

pub returns : goal.returns
returns g c = put_more c.put_notice.ensures c.put.ensures
