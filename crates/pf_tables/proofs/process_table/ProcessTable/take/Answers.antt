use Rattle.pf_tables.proofs.ProcessTable.{gone_watched}
use Rattle.pf_tables.proofs.process_table.ProcessTable.take.Goals as goal

pub invariant_of-self : goal.invariant_of-self
invariant_of-self c =
    rw c.take.ensures.places
    (gone_watched _ _ c.self.invariant _ c.args.i c.requires c.unmark.ensures.unmarked c.unmark.ensures.others)
