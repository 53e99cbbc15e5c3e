-- Answers that soon fail where a wrong body breaks them.
use Rattle.std.proofs.lemmas.Grind.{common_steps}
use Rattle.std.proofs.Common.{arith}
use Rattle.pf_depot.proofs.book.DepotBook.over.Goals as goal

pub returns : goal.returns
returns g c = grind (arith, common_steps)
