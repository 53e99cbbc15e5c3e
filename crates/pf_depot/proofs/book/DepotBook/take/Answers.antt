-- Answers that soon fail where a wrong body breaks them.
use Rattle.std.proofs.Common.{rules}
use Rattle.pf_depot.proofs.book.DepotBook.take.Goals as goal

pub returns-clause-lends : goal.returns-clause-lends
returns-clause-lends g c = search rules steps 500000

pub invariant_of-self : goal.invariant_of-self
invariant_of-self g c = search rules steps 500000
