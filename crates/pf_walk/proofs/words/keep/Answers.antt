use Rattle.std.proofs.Common.{◌≡◌, ◌∷◌, [], ◌++◌, not, true, sym, ap, ◌∙◌, cond}
use Rattle.pf_machine.specs.Paths.{is_component}
use Rattle.pf_tree.specs.Subtrees.{path_of}
use Rattle.pf_walk.proofs.Cuts.{path_of-append}
use Rattle.pf_walk.proofs.words.keep.Goals as goal

pub returns-then-not-is_empty-clause-names : goal.returns-then-not-is_empty-clause-names
returns-then-not-is_empty-clause-names c =
    let n = c.args.name.now in
    let some : is_component n ≡ true = ap not (sym c.is_empty.ensures) ∙ ap not c.if-not-is_empty.true in
    ap path_of c.push_reserved.ensures.items
    ∙ path_of-append c.args.names.now.items c.args.name
    ∙ ap (λ b. path_of c.args.names.now.items ++ cond b (n ∷ []) []) (sym some)
