-- Answers that soon fail where a wrong body breaks them.
use Rattle.std.proofs.Common.{rules}
use Rattle.pf_depot.proofs.book.DepotBook.give.Goals as goal

pub returns-clause-undone : goal.returns-clause-undone
returns-clause-undone g c = search rules steps 500000

pub returns-clause-held : goal.returns-clause-held
returns-clause-held g c = search rules steps 100000
