use Rattle.std.proofs.Common.{◌∙◌, ap}
use Rattle.pf_tables.proofs.Common.{at, ProcessRows}
use Rattle.pf_tables.proofs.ProcessTable.{put_watched}
use Rattle.pf_tables.proofs.process_table.ProcessTable.put.Goals as goal

pub invariant_of-self : goal.invariant_of-self
invariant_of-self c =
    rw c.put.ensures
    (put_watched _ _ c.self.invariant c.args.i c.args.process c.requires.within
    (ap (λ (ps : ProcessRows). at ps c.args.i) c.self.view_is ∙ c.requires.free) c.requires.awake)
