use Rattle.std.proofs.Common.{◌≡◌, List, [], ◌∷◌, sym, ap, ◌∙◌, refl, length, arith}
use Rattle.std.proofs.lemmas.Bool.Decides.{nat_tests}
use Rattle.std.specs.Prelude.{◌==◌, not}
use Rattle.pf_machine.specs.Paths.{is_nonempty}
use Rattle.pf_tree.proofs.NodeList.{entry_names, names_seen}
use Rattle.pf_tree.proofs.node.Node.has_names.Goals as goal
use Rattle.pf_tree.specs.Node.{Boxed}

counted : {Z : Type 0} (es : List (Boxed Z)) → not (length es == 0) ≡ is_nonempty (entry_names es)
counted [] = refl
counted (e ∷ es) = grind (arith, nat_tests)

pub returns-in-Directory : goal.returns-in-Directory
returns-in-Directory g c =
    ap not c.is_empty.ensures ∙ ap (λ l. not (length l == 0)) c.as_slice.ensures.value ∙ counted c.in-Directory.entries.items
    ∙ ap is_nonempty (sym (names_seen c.self.inside c.self.view_is c.self.invariant c.in-Directory.is))
