use Rattle.std.proofs.Common.{◌≡◌, [], sym, ap, ◌∙◌, Some}
use Rattle.std.specs.Prelude.{Ok}
use Rattle.pf_machine.specs.Refusals.{◌>>=◌, or_refuse}
use Rattle.pf_base.specs.declared.errno.Errno.TheVariants.{ENOENT}
use Rattle.pf_machine.specs.FileMap.{find}
use Rattle.pf_machine.specs.Paths.{reach}
use Rattle.pf_tree.specs.Subtrees.{path_of, subtree}
use Rattle.pf_walk.specs.Walks.{file_at}
use Rattle.pf_walk.proofs.Cuts.{path_past}
use Rattle.pf_walk.proofs.WalkLaws.{found_here}
use Rattle.pf_walk.proofs.resolution.wander.Goals as goal

pub returns-clause-told : goal.returns-clause-told
returns-clause-told g c =
    let fs = c.args.root.now in
    let p = path_of c.loop-name.walk.names.items in
    let here : find p fs ≡ Some c.file-file.result = found_here fs c.here-node.result.now p (Some c.file-file.result) (c.here-node.ensures ∙ ap (subtree p) c.loop-name.invariant.0) c.file-file.ensures in
    let arrived : reach fs c.args.cred.now [] (path_of c.args.names.now) ≡ Ok p = sym c.loop-name.invariant.2 ∙ ap (reach fs c.args.cred.now p) (path_past c.args.names.now c.loop-name.name-index c.loop-name-test.false) in
    ap (file_at fs) arrived
    ∙ ap (λ o. or_refuse ENOENT o >>= (λ f. Ok (p, f))) here
    ∙ ap (λ l. Ok (path_of l, c.file-file.result)) (sym c.into_path.ensures)

pub returns-clause-found : goal.returns-clause-found
returns-clause-found g c =
    let fs = c.args.root.now in
    ap (λ l. find (path_of l) fs) c.into_path.ensures
    ∙ found_here fs c.here-node.result.now (path_of c.loop-name.walk.names.items) (Some c.file-file.result) (c.here-node.ensures ∙ ap (subtree (path_of c.loop-name.walk.names.items)) c.loop-name.invariant.0) c.file-file.ensures
