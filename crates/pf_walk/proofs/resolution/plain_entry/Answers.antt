use Rattle.std.proofs.Common.{rules, sym, ap, ◌∙◌, subst}
use Rattle.pf_machine.specs.FileMap.{IsDirectory}
use Rattle.pf_machine.specs.Paths.{permitted}
use Rattle.pf_walk.proofs.Targets.{directory_of, dots_of, entry_found, entry_refused, same_file}
use Rattle.pf_walk.proofs.resolution.plain_entry.Goals as goal

pub returns-in_err-search-clause-refused : goal.returns-in_err-search-clause-refused
returns-in_err-search-clause-refused g c =
    let at = rw (c.in-Some.is, c.root.ensures.value) at c.in_ok-node.ensures.reached in
    let refused =
    entry_refused c.args.tree.now c.args.cred.now c.args.path.now c.in_ok-judge.ensures.passed c.in-Some.node.now
    c.in-Some.name.now at c.file.result c.file.ensures c.in_err-search.field-0.0 (sym c.in_err-search.ensures) in
    search rules

pub returns-clause-reached : goal.returns-clause-reached
returns-clause-reached g c =
    let at = rw (c.in-Some.is, c.root.ensures.value) at c.in_ok-node.ensures.reached in
    let way = sym c.in_ok-search.ensures in (
      at.0,
      at.1,
      at.4,
      subst IsDirectory (sym c.file.ensures) (directory_of c.args.cred.now c.file.result _ way),
      λ f file.
          entry_found c.args.tree.now c.args.cred.now c.args.path.now c.in_ok-judge.ensures.passed c.in-Some.node.now
          c.in-Some.name.now at f file _ (ap (permitted c.args.cred.now) (same_file (sym file ∙ c.file.ensures)) ∙ way),
    )

pub returns-in_default-clause-dots : goal.returns-in_default-clause-dots
returns-in_default-clause-dots g c none =
    dots_of c.args.tree.now c.args.cred.now c.args.path.now c.in_ok-judge.ensures.passed
    (c.in_ok-node.ensures.dots c.in_default.is)
