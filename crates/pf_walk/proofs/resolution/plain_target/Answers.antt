use Rattle.std.proofs.Common.{◌≡◌, true, false, not, Some, sym, ap, ◌∙◌}
use Rattle.std.specs.Prelude.{Ok, ◌&&◌}
use Rattle.pf_machine.specs.FileMap.{is_directory}
use Rattle.pf_machine.specs.Paths.{Nothing, components, ends_in_slash, is_nonempty}
use Rattle.pf_walk.proofs.Targets.{dots_of, led}
use Rattle.pf_walk.proofs.WalkLaws.{found_here}
use Rattle.pf_walk.proofs.resolution.plain_target.Goals as goal
use Rattle.pf_walk.proofs.resolution.plain_target.Goals.{else-slash-via-then-slash+else-not-is_directory, else-slash-via-else-slash}

pub returns-then-not-is_directory-clause-refused : goal.returns-then-not-is_directory-clause-refused
returns-then-not-is_directory-clause-refused g c =
    let bs = c.args.path.now in
    let at = rw (c.in-Some.is, c.root.ensures.value) at c.in_ok-node.ensures.reached in
    let test : (ends_in_slash bs && is_nonempty (components bs) && not (is_directory c.file-file.result)) ≡ true =
    λ i. (sym c.has_slash-slash.ensures ∙ c.if-slash.true) i
    && ap not (sym c.is_directory.ensures ∙ c.if-not-is_directory.true) i in
    led c.args.tree.now c.args.cred.now bs c.in_ok-judge.ensures.passed c.in-Some.node.now at.0 at.1 c.file-file.result
    c.file-file.ensures true test

pub returns-clause-reached : goal.returns-clause-reached
returns-clause-reached g c =
    let bs = c.args.path.now in
    let f = c.file-file.result in
    let at = rw (c.in-Some.is, c.root.ensures.value) at c.in_ok-node.ensures.reached in
    let slash = sym c.has_slash-slash.ensures in
    let test : (ends_in_slash bs && is_nonempty (components bs) && not (is_directory f)) ≡ false =
    elim c.else-slash.branch [
      | else-slash-via-then-slash+else-not-is_directory w ↦
          λ i. (slash ∙ w.if-slash.true) i && ap not (sym w.is_directory.ensures ∙ w.if-not-is_directory.false) i
      | else-slash-via-else-slash w ↦ λ i. (slash ∙ w.if-slash.false) i && not (is_directory f)
    ] in
    led c.args.tree.now c.args.cred.now bs c.in_ok-judge.ensures.passed c.in-Some.node.now at.0 at.1 f
    c.file-file.ensures false test
    ∙ ap (λ b. Ok (record { path = components bs; file = f; last = Nothing; slash = b })) slash

pub returns-clause-found : goal.returns-clause-found
returns-clause-found g c =
    let at = rw (c.in-Some.is, c.root.ensures.value) at c.in_ok-node.ensures.reached in
    found_here c.args.tree.now c.in-Some.node.now (components c.args.path.now) (Some c.file-file.result) at.1
    c.file-file.ensures

pub returns-in_default-clause-dots : goal.returns-in_default-clause-dots
returns-in_default-clause-dots g c none =
    dots_of c.args.tree.now c.args.cred.now c.args.path.now c.in_ok-judge.ensures.passed
    (c.in_ok-node.ensures.dots c.in_default.is)
