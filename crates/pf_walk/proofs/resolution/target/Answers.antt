use Rattle.std.proofs.Common.{rules, ◌≡◌, [], sym, ap, ◌∙◌, subst, false}
use Rattle.std.specs.Prelude.{Ok, Err, ◌&&◌, not}
use Rattle.pf_machine.specs.Refusals.{◌>>=◌, ◌>>◌, refuse_if}
use Rattle.pf_base.specs.declared.errno.Errno.TheVariants.{ENOTDIR}
use Rattle.pf_machine.specs.FileMap.{is_directory}
use Rattle.pf_machine.specs.Paths.{Nothing, reach}
use Rattle.pf_tree.specs.Subtrees.{path_of}
use Rattle.pf_walk.specs.Told.{Told}
use Rattle.pf_walk.specs.Walks.{file_at}
use Rattle.pf_walk.specs.Resolutions.{words, arrived, target_arrived}
use Rattle.pf_walk.proofs.Reached.{told_on, target_from, target_at}
use Rattle.pf_walk.proofs.resolution.target.Goals as goal
use Rattle.pf_walk.proofs.resolution.target.Goals.{else-slash-via-then-slash+else-not-is_directory, else-slash-via-else-slash}

pub returns-in_err-arrival-clause-told : goal.returns-in_err-arrival-clause-told
returns-in_err-arrival-clause-told g c =
    let fs = c.args.tree.now in
    let w = words c.args.cut in
    let moved =
    ap (λ s. file_at s (reach s c.args.cred.now [] (path_of c.as_slice.result.now))) c.root.ensures.value
    ∙ ap (λ l. file_at fs (reach fs c.args.cred.now [] (path_of l))) c.as_slice.ensures.value in
    let onward = subst (λ a. Told (target_arrived {A = g.row.A.Denot}) (Err c.in_err-arrival.field-0.0) a) (target_from fs c.args.cred.now w)
    (told_on (arrived {A = g.row.A.Denot}) (target_arrived {A = g.row.A.Denot}) c.in_err-arrival.field-0.0 (file_at fs (reach fs c.args.cred.now [] w.names)) (target_at fs c.args.cred.now w) (subst (λ a. Told (arrived {A = g.row.A.Denot}) (Err c.in_err-arrival.field-0.0) a) moved c.in_err-arrival.ensures.told)) in
    search rules

pub returns-clause-told : goal.returns-clause-told
returns-clause-told g c =
    let fs = c.args.tree.now in
    let w = words c.args.cut in
    let f = c.in_ok-arrival.arrival.file in
    let moved =
    ap (λ s. file_at s (reach s c.args.cred.now [] (path_of c.as_slice.result.now))) c.root.ensures.value
    ∙ ap (λ l. file_at fs (reach fs c.args.cred.now [] (path_of l))) c.as_slice.ensures.value in
    let calm : (w.slash && not (is_directory f)) ≡ false =
    elim c.else-slash.branch [
      | else-slash-via-then-slash+else-not-is_directory b ↦ ap (λ x. x && not (is_directory f)) b.if-slash.true ∙ ap not (sym b.is_directory.ensures ∙ b.if-not-is_directory.false)
      | else-slash-via-else-slash b ↦ ap (λ x. x && not (is_directory f)) b.if-slash.false
    ] in
    sym (target_from fs c.args.cred.now w)
    ∙ ap (λ s. s >>= target_at fs c.args.cred.now w) (sym moved ∙ c.in_ok-arrival.ensures.told)
    ∙ ap (λ b. refuse_if b ENOTDIR >> Ok (record { path = path_of c.in_ok-arrival.arrival.path.items; file = f; last = Nothing; slash = w.slash })) calm
