use Rattle.pf_fds.proofs.MarksLaws.{FullBelow}
use Rattle.pf_fds.proofs.marks.Marks.lowest.Given as goal

abbrev pub invariant-words : goal.invariant-words
invariant-words l = FullBelow l.self.words l.w
