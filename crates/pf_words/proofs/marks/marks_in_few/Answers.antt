use Rattle.std.proofs.Common.{◌∙◌}
use Rattle.pf_words.proofs.MarkLaws.{marks_of_front}
use Rattle.pf_words.proofs.marks.marks_in_few.Goals as goal

pub returns : goal.returns
returns c =
    c.marks_of.ensures
    ∙ marks_of_front c.args.byte c.args.text.now c.copy_from_slice.new.self c.requires.some c.copy_from_slice.ensures.after
