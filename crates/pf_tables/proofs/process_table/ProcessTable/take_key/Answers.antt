use Rattle.std.proofs.Common.{refl}
use Rattle.pf_tables.proofs.ProcessTable.{cleared, still_watched}
use Rattle.pf_tables.proofs.process_table.ProcessTable.take_key.Goals as goal

pub invariant_of-self : goal.invariant_of-self
invariant_of-self c =
    let p = c.value_mut.result.now in
    let there = c.value_mut.ensures.value in
    still_watched _ _ c.self.invariant c.args.i p _ there
    (cleared p (c.self.invariant.seated.spare c.args.i p there) c.args.fd _ c.clear.ensures.descriptors) refl
