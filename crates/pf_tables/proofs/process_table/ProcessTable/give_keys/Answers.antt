use Rattle.std.proofs.Common.{rules, refl}
use Rattle.pf_tables.proofs.ProcessTable.{given, still_watched}
use Rattle.pf_tables.proofs.process_table.ProcessTable.give_keys.Goals as goal

pub invariant_of-self : goal.invariant_of-self
invariant_of-self c =
    still_watched _ _ c.self.invariant _ _ _ c.value_mut-process.ensures.value
    (given c.self.view_is c.args.pid c.requires.ready _ c.value_mut-process.ensures.value _) refl

pub returns : goal.returns
returns c = search rules steps 100000
