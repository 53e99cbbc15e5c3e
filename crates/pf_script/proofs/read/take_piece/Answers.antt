use Rattle.std.proofs.Common.{rules}
use Rattle.pf_words.proofs.CutLaws.{whole, joined}
use Rattle.pf_script.proofs.read.take_piece.Goals as goal

pub returns-in_default-clause-one_line : goal.returns-in_default-clause-one_line
returns-in_default-clause-one_line c =
    let none = rw c.in_default.is at c.memchr.ensures in
    rw c.in_ok-extend_from_slice.ensures.items (joined _ _ _ c.requires.one_line (whole _ _ none))

pub returns-clause-judged : goal.returns-clause-judged
returns-clause-judged c = search rules steps 500000
