use Rattle.pf_script.proofs.PrinterPut.{put_more}
use Rattle.pf_script.proofs.notice.put_cause.Goals as goal

pub returns-in-ReservationsExceed : goal.returns-in-ReservationsExceed
returns-in-ReservationsExceed g c =
    let words = rw (c.as_bytes.ensures.value, c.words.ensures) at c.put.ensures in
    let sum = put_more (put_more words c.put-in-ReservationsExceed.ensures) c.put_number.ensures in
    let frames = rw c.from.ensures at c.put_number-in-ReservationsExceed.ensures in
    rw c.in-ReservationsExceed.is (put_more (put_more sum c.put-in-ReservationsExceed-2.ensures) frames)
