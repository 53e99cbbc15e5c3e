use Rattle.pf_script.proofs.PrinterPut.{put_more}
use Rattle.pf_script.proofs.notice.put_notice.Goals as goal

pub returns-in-NoNamespace : goal.returns-in-NoNamespace
returns-in-NoNamespace g c =
    let name = rw c.as_bytes.ensures.value at c.put-in-NoNamespace.ensures in
    rw c.in-NoNamespace.is (put_more c.put.ensures name)
