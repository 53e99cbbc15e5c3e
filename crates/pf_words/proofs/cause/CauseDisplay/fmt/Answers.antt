use Rattle.std.proofs.Common.{◌≡◌, ◌++◌, ap, append_assoc, ◌∙◌}
use Rattle.std.specs.Prelude.{codes, decimal}
use Rattle.pf_words.specs.Causes.{cause_words}
use Rattle.pf_words.proofs.cause.CauseDisplay.fmt.Goals as goal

pub returns-in-ReservationsExceed-clause-writes : goal.returns-in-ReservationsExceed-clause-writes
returns-in-ReservationsExceed-clause-writes g c =
    let sum = decimal c.in-ReservationsExceed.sum in
    let frames = decimal c.in-ReservationsExceed.frames in
    let words : c.words-words.result.now ≡ codes "reservations" =
    c.words-words.ensures ∙ ap cause_words c.in-ReservationsExceed.is in
    let joined =
    append_assoc (codes "reservations " ++ sum) (codes " exceed pool ") frames
    ∙ append_assoc (codes "reservations ") sum (codes " exceed pool " ++ frames) in
    rw (c.in-ReservationsExceed.is, joined) (rw words at c.write.ensures.writes)
