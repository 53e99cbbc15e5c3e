use Rattle.std.proofs.Common.{ap, arith}
use Rattle.std.proofs.lemmas.List.{length-take-le}
use Rattle.std.specs.Int.Count.{count_trailing_zeros}
use Rattle.pf_words.proofs.MarkLaws.{first_mark, first_in_front}
use Rattle.pf_words.proofs.marks.find_near.Goals as goal

pub returns-then-marks-ne0 : goal.returns-then-marks-ne0
returns-then-marks-ne0 c =
    let near = rw c.split_at.ensures.front at c.marks_in-marks.ensures in
    let long = length-take-le 32 c.args.text.now c.if-text-ge-MARKED.true in
    first_in_front c.args.byte 32 _ c.args.text.now c.if-text-ge-MARKED.true
    (first_mark c.args.byte _ _ (omega (arith, long)) (omega (arith, near, c.if-marks-ne0.true))
    (ap (count_trailing_zeros 64) near))
