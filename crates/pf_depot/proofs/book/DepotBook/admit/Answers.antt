-- Answers that soon fail where a wrong body breaks them.
use Rattle.std.proofs.Common.{rules}
use Rattle.pf_depot.proofs.book.DepotBook.admit.Goals as goal

pub returns : goal.returns
returns g c = search rules steps 500000

pub returns-in_err-loans : goal.returns-in_err-loans
returns-in_err-loans g c = search rules steps 500000
