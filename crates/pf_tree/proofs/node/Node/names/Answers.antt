use Rattle.std.proofs.Common.{◌+◌, sym, ap, ◌∙◌, ◌++◌, ◌∷◌, [], drop, append-nil}
use Rattle.pf_machine.specs.FileMap.{listed}
use Rattle.pf_tree.proofs.NodeList.{entry_names, names_seen, one_more, past}
use Rattle.pf_tree.proofs.node.Node.names.Goals as goal

pub loop-entry-init : goal.loop-entry-init
loop-entry-init g c =
    ap (λ l. l ++ listed (entry_names c.deref-entry-items.result.now)) c.new-names.ensures.items
    ∙ ap listed (ap entry_names c.deref-entry-items.ensures.value ∙ sym (names_seen c.self.inside c.self.view_is c.self.invariant c.in-Directory.is))

pub loop-entry-preserved : goal.loop-entry-preserved
loop-entry-preserved g c =
    ap (λ l. l ++ listed (entry_names (drop (c.loop-entry.entry-index + 1) c.deref-entry-items.result.now))) (c.in_ok-push.ensures.items ∙ ap (λ l. l ++ 47 ∷ []) (c.in_ok-extend_from_slice.ensures.items ∙ ap (λ l. c.loop-entry.names.items ++ l) (c.as_slice.ensures.value ∙ ap (λ x. x.name.items) c.deref.ensures)))
    ∙ one_more c.loop-entry.names.items c.deref-entry-items.result.now c.loop-entry.entry-index c.entry-item.result c.loop-entry-test.true c.entry-item.is
    ∙ c.loop-entry.invariant

pub returns : goal.returns
returns g c = sym (ap (λ l. c.loop-entry.names.items ++ listed l) (past c.deref-entry-items.result.now c.loop-entry.entry-index c.loop-entry-test.false) ∙ append-nil c.loop-entry.names.items) ∙ c.loop-entry.invariant
