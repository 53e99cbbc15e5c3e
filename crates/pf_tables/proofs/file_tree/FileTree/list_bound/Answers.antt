use Rattle.std.proofs.Common.{arith}
use Rattle.pf_machine.proofs.FileLimitLaws as lemmas
use Rattle.pf_tables.proofs.file_tree.FileTree.list_bound.Goals as goal

pub returns-clause-covers : goal.returns-clause-covers
returns-clause-covers g c path =
    let few = lemmas.names_within c.self.inside.tree c.self.invariant c.root-root.ensures.map.root path in
    rw (← c.self.view_is) (omega (arith, few, c.count.ensures))
