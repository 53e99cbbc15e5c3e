use Rattle.memchr.specs.Find.{Nowhere, Passes, is_byte}
use Rattle.pf_words.proofs.cut.find.Given as goal

abbrev pub invariant-loop-k : goal.invariant-loop-k
invariant-loop-k l = Nowhere (Passes (is_byte l.cut) l.text) 0 l.k
