-- Answers that soon fail where a wrong body breaks them.
use Rattle.std.proofs.Common.{rules}
use Rattle.pf_depot.proofs.book.DepotBook.open.Goals as goal

pub returns-in-Err : goal.returns-in-Err
returns-in-Err g c = search rules steps 500000
