use Rattle.pf_words.proofs.MarkLaws.{marks_in_two}
use Rattle.pf_words.proofs.marks.marks_in.Goals as goal

pub overflow_add-result : goal.overflow_add-result
overflow_add-result c =
    let h = marks_in_two c.args.byte _ _ c.args.text.now c.if-text-lt-LANES.false c.requires.short
    c.marks_of-front.ensures c.marks_of.ensures in
    record { fits = h.0 }

pub returns : goal.returns
returns c =
    let h = marks_in_two c.args.byte _ _ c.args.text.now c.if-text-lt-LANES.false c.requires.short
    c.marks_of-front.ensures c.marks_of.ensures in
    h.1
