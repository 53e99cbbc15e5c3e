use Rattle.pf_script.proofs.PrinterPut.{put_more}
use Rattle.pf_script.proofs.text.put_admission.Goals as goal

pub returns-in-NoRoom : goal.returns-in-NoRoom
returns-in-NoRoom g c =
    let slack = rw c.from.ensures at c.put_number.ensures in
    rw c.in-NoRoom.is (put_more c.put.ensures slack)
