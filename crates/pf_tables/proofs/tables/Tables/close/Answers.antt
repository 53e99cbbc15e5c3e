use Rattle.std.proofs.Common.{sym, rules}
use Rattle.pf_tables.proofs.DescriptorsDrop.{closed_is, closed_not}
use Rattle.pf_tables.proofs.DescriptorsNamed.{has}
use Rattle.pf_tables.proofs.tables.Tables.close.Goals as goal

pub returns-in_err-key_of-clause-closes : goal.returns-in_err-key_of-clause-closes
returns-in_err-key_of-clause-closes g c =
    let refused = closed_not _ _ _ c.self.view_is _ _ (sym c.in_err-key_of.ensures) in
    search rules

pub returns-clause-closes : goal.returns-clause-closes
returns-clause-closes g c =
    (_, closed_is _ _ _ c.self.view_is _ _ (has _ _ _ (sym c.in_ok-key_of.ensures)), c.empty-pipe.ensures.leaves)
