use Rattle.std.proofs.Common.{rules}
use Rattle.std.proofs.lemmas.Fn.{always_returns_same}
use Rattle.pf_machine.specs.FileMap.{name_cmp}
use Rattle.pf_tree.proofs.Places.{placed}
use Rattle.pf_tree.proofs.node.locate.Goals as goal

pub returns : goal.returns
returns g c = placed _ _ _ c.requires.rises c.binary_search_by.ensures.bound (c.binary_search_by.ensures.position (λ e. name_cmp e.value.name.items c.args.name.now) (always_returns_same _ _ _ (λ a r f' k. search rules)))
