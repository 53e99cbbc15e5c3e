use Rattle.pf_tables.proofs.ProcessTable.{parked, replaced}
use Rattle.pf_tables.proofs.process_table.ProcessTable.park.Goals as goal

pub invariant_of-self : goal.invariant_of-self
invariant_of-self c =
    replaced _ _ c.self.invariant _ _ _ _ c.value_mut.ensures.value
    (parked c.self.view_is c.args.pid c.requires.ready _ c.value_mut.ensures.value c.args.call c.requires.may)
    c.mark.ensures.marked c.mark.ensures.others
