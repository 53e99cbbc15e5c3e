use Rattle.std.proofs.Common.{◌≡◌, drop, ◌++◌, []}
use Rattle.pf_machine.specs.FileMap.{listed, names_below}
use Rattle.pf_tree.proofs.NodeList.{entry_names}
use Rattle.pf_tree.proofs.node.Node.names.Given as goal

abbrev pub invariant-loop-entry : goal.invariant-loop-entry
invariant-loop-entry g l = l.names.items ++ listed (entry_names (drop l.entry-index l.entry-items)) ≡ listed (names_below [] l.self)
