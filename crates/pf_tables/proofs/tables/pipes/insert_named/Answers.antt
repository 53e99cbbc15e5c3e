use Rattle.pf_tables.proofs.PipesOpen.{named_once}
use Rattle.pf_tables.proofs.tables.pipes.insert_named.Goals as goal

pub returns-clause-items : goal.returns-clause-items
returns-clause-items c =
    named_once _ _ _ c.insert_reserved-key.result c.args.end c.insert_reserved-key.ensures.serial
    c.insert_reserved-key.ensures.items c.name.ensures.items
