use Rattle.std.proofs.Common.{sym, ap, ◌∙◌, subst, [], ◌∷◌, ◌++◌, is_ok, Bool, true, false}
use Rattle.std.specs.Prelude.{if◌then◌else◌}
use Rattle.pf_machine.specs.FileMap.{insert, IsDirectory}
use Rattle.pf_tree.specs.Local.{IsLocal}
use Rattle.pf_tree.specs.Subtrees.{path_of, subtree}
use Rattle.pf_tree.proofs.Changes.{at_end, insert_local, none_local}
use Rattle.pf_tree.proofs.Paths.{whole, at_parent, parent_is, there, nonempty}
use Rattle.pf_tree.proofs.node.Node.insert.Goals as goal

pub change-requires : goal.change-requires
change-requires g c =
    let name = c.in-Some.name.now in
    let parent = c.in-Some.parent.now in
    let is = c.in-Some.ensures.cases.0 in
    let directory = subst IsDirectory (parent_is parent name is c.args.self.now) c.requires.parent in
    record {
      local = λ answer. by (is_ok answer);
      there = nonempty [] (subtree (path_of parent) c.args.self.now) (there _ directory);
      fit = (at_parent parent name is c.args.self.now ∙ c.requires.absent, directory);
    }
  where
    by : (ok : Bool) → IsLocal (λ p s. if ok then insert (p ++ c.in-Some.name.now.now ∷ []) c.args.file s else s)
    by true = at_end (c.in-Some.name.now.now ∷ []) (insert_local c.args.file)
    by false = none_local

pub returns : goal.returns
returns g c =
    let same = whole c.in-Some.parent.now c.in-Some.name.now c.in-Some.ensures.cases.0 in
    c.change.ensures
    ∙ ap (λ p. if is_ok c.change.result then insert p c.args.file c.args.self.now else c.args.self.now) (sym same)
