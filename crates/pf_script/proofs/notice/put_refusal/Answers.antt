use Rattle.pf_script.proofs.PrinterPut.{put_more}
use Rattle.pf_script.proofs.notice.put_refusal.Goals as goal

pub returns : goal.returns
returns g c =
    put_more (put_more (put_more c.put.ensures c.put_number.ensures) c.put-2.ensures) c.put_cause.ensures
