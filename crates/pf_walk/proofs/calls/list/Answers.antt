use Rattle.std.proofs.Common.{rules, ◌≡◌, [], sym, ap, ◌∙◌}
use Rattle.pf_machine.specs.FileMap.{listed, names_below}
use Rattle.pf_tree.proofs.NodeList.{names_subtree}
use Rattle.pf_walk.specs.Resolutions.{way}
use Rattle.pf_walk.proofs.calls.list.Goals as goal

pub returns-clause-told : goal.returns-clause-told
returns-clause-told g c =
    let t = c.in_ok-target.target in
    let same : listed (names_below [] t.node.now) ≡ listed (names_below (way t.way) c.args.tree.now) =
    ap (λ d. listed (names_below [] d)) c.in_ok-target.ensures.node
    ∙ ap listed (sym (names_subtree (way t.way) c.args.tree.now)) in
    let told : c.in_ok-names.names.items ≡ listed (names_below (way t.way) c.args.tree.now) =
    c.in_ok-names.ensures ∙ same in
    search rules

pub returns-then-not-may-clause-told : goal.returns-then-not-may-clause-told
returns-then-not-may-clause-told g c = search rules steps 200000

pub returns-in_err-names-clause-wanted : goal.returns-in_err-names-clause-wanted
returns-in_err-names-clause-wanted g c = search rules steps 200000
