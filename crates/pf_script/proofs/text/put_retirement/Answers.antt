use Rattle.pf_script.proofs.PrinterPut.{put_more}
use Rattle.pf_script.proofs.text.put_retirement.Goals as goal

pub returns-in-Alive : goal.returns-in-Alive
returns-in-Alive g c =
    let processes = rw c.from.ensures at c.put_number.ensures in
    rw c.in-Alive.is (put_more c.put-in-Alive.ensures processes)
