use Rattle.std.proofs.Common.{◌≡◌, ◌++◌, ◌∷◌, [], length, sym, ap, ◌∙◌, subst, arith, Some}
use Rattle.std.specs.Prelude.{Ok}
use Rattle.std.proofs.lemmas.List.{length-append}
use Rattle.pf_machine.specs.Refusals.{◌>>=◌}
use Rattle.pf_machine.specs.FileMap.{find, front, names_below, IsDirectory}
use Rattle.pf_machine.specs.FileCalls.{place_of}
use Rattle.pf_machine.specs.Paths.{is_nonempty}
use Rattle.pf_tree.specs.Subtrees.{path_of}
use Rattle.pf_walk.specs.Resolutions.{resolved, last}
use Rattle.pf_walk.proofs.Cuts.{path_of-append, front-append}
use Rattle.pf_walk.proofs.Places.{file_there, names_there}
use Rattle.pf_walk.proofs.calls.kept_place.Goals as goal

pub returns-clause-told : goal.returns-clause-told
returns-clause-told g c =
    let r = c.in_ok-resolved.resolved in
    let u = c.args.unnamed in
    let longer : c.append.new.items.items ≡ r.path.items ++ c.in-Name.name ∷ [] = c.in_ok-append-in-Name.ensures in
    ap (λ s. s >>= (λ e. place_of u.root u.dot u.dot_dot e e.last)) c.in_ok-resolved.ensures.told
    ∙ ap (λ l. place_of u.root u.dot u.dot_dot (resolved r) (last l)) c.in-Name.is
    ∙ ap (λ p. Ok (record { path = p; directory = r.file; slash = r.slash })) (sym (ap path_of longer ∙ path_of-append r.path.items c.in-Name.name))

pub returns-clause-place : goal.returns-clause-place
returns-clause-place g c =
    let fs = c.args.tree.now in
    let r = c.in_ok-resolved.resolved in
    let n = c.in-Name.name in
    let d = c.in_ok-resolved.node.now in
    let all : path_of c.append.new.items.items ≡ path_of r.path.items ++ n.now ∷ [] =
    ap path_of c.in_ok-append-in-Name.ensures ∙ path_of-append r.path.items n in
    let before : front (path_of c.append.new.items.items) ≡ path_of r.path.items =
    ap front all ∙ front-append (path_of r.path.items) n.now in
    let there : IsDirectory (Some r.file) = c.in_ok-resolved.ensures.directory in (
      omega (arith, ap length all, length-append (path_of r.path.items) (n.now ∷ [])),
      subst (λ p. IsDirectory (find p fs)) (sym before)
          (subst IsDirectory (sym c.in_ok-resolved.ensures.found) there),
      c.entry_of-file.ensures.file ∙ file_there fs d (path_of r.path.items) n.now c.in_ok-resolved.ensures.node
          ∙ ap (λ q. find q fs) (sym all),
      c.entry_of-file.ensures.full
          ∙ ap is_nonempty (names_there fs d (path_of r.path.items) n.now c.in_ok-resolved.ensures.node)
          ∙ ap (λ q. is_nonempty (names_below q fs)) (sym all),
    )
