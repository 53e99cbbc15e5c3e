use Rattle.std.proofs.Common.{sym, ap, ◌∙◌, subst, [], ◌∷◌}
use Rattle.std.specs.Prelude.{IsSome}
use Rattle.pf_machine.specs.FileMap.{remove, names_below, IsDirectory}
use Rattle.pf_tree.specs.Subtrees.{path_of, subtree}
use Rattle.pf_tree.proofs.Changes.{at_end, remove_local}
use Rattle.pf_tree.proofs.NodeList.{names_end}
use Rattle.pf_tree.proofs.Paths.{whole, at_parent, nonempty}
use Rattle.pf_tree.proofs.node.Node.remove.Goals as goal

pub change-requires : goal.change-requires
change-requires g c =
    let name = c.in-Some.name.now in
    let parent = c.in-Some.parent.now in
    let s = c.args.self.now in
    let is = c.in-Some.ensures.cases.0 in
    let found = sym (at_parent parent name is s) in
    let there = subst IsSome found c.requires.present in
    let named = ap (λ q. names_below q s) (whole parent name is) ∙ names_end (path_of parent) (name.now ∷ []) s in
    record {
      local = λ answer. at_end (name.now ∷ []) remove_local;
      there = nonempty (name.now ∷ []) (subtree (path_of parent) s) there;
      fit = (there, λ directory. sym named ∙ c.requires.empty (subst IsDirectory (sym found) directory));
    }

pub returns : goal.returns
returns g c =
    let same = whole c.in-Some.parent.now c.in-Some.name.now c.in-Some.ensures.cases.0 in
    c.change.ensures ∙ ap (λ p. remove p c.args.self.now) (sym same)
