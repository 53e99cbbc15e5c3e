use Rattle.std.proofs.Common.{rules, [], ap, ◌∙◌, subst}
use Rattle.std.specs.Prelude.{Err}
use Rattle.pf_machine.specs.FileMap.{front}
use Rattle.pf_machine.specs.Paths.{reach}
use Rattle.pf_tree.specs.Subtrees.{path_of}
use Rattle.pf_walk.specs.Told.{Told}
use Rattle.pf_walk.specs.Walks.{file_at}
use Rattle.pf_walk.specs.Resolutions.{words, resolved, arrived}
use Rattle.pf_walk.proofs.Reached.{told_on, if_permitted, entry_from, entry_at}
use Rattle.pf_walk.proofs.resolution.entry.Goals as goal

pub returns-in_err-path-clause-told : goal.returns-in_err-path-clause-told
returns-in_err-path-clause-told g c =
    let fs = c.args.tree.now in
    let w = words c.args.cut in
    let moved =
    ap (λ s. file_at s (reach s c.args.cred.now [] (path_of c.as_slice-2.result.now))) c.root.ensures.value
    ∙ ap (λ l. file_at fs (reach fs c.args.cred.now [] (path_of l))) c.as_slice-2.ensures.value
    ∙ ap (λ p. file_at fs (reach fs c.args.cred.now [] p)) c.but_last-parents.ensures in
    let onward = subst (λ a. Told resolved (Err c.in_err-path.field-0.0) a) (entry_from fs c.args.cred.now w)
    (told_on (arrived {A = g.row.A.Denot}) resolved c.in_err-path.field-0.0 (file_at fs (reach fs c.args.cred.now [] (front w.names))) (if_permitted c.args.cred.now (entry_at fs c.args.cred.now w)) (subst (λ a. Told (arrived {A = g.row.A.Denot}) (Err c.in_err-path.field-0.0) a) moved c.in_err-path.ensures.told)) in
    search rules
