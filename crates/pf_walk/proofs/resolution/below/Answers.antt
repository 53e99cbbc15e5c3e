use Rattle.std.proofs.Common.{rules, ◌≡◌, not, true, sym, ap, ◌∙◌}
use Rattle.pf_machine.specs.Paths.{is_component}
use Rattle.pf_walk.proofs.Plain.{stops, lost, leads}
use Rattle.pf_walk.proofs.resolution.below.Goals as goal

pub returns-in_err-search-clause-refused : goal.returns-in_err-search-clause-refused
returns-in_err-search-clause-refused g c =
    let some : is_component c.args.name.now ≡ true = ap not (sym c.is_empty.ensures) ∙ ap not c.if-is_empty.false in
    let no_way = stops c.args.node.now c.args.cred.now c.args.name.now some c.file.ensures _ (sym c.in_err-search.ensures) in
    search rules

pub returns-in-Some-clause-goes : goal.returns-in-Some-clause-goes
returns-in-Some-clause-goes g c =
    let some : is_component c.args.name.now ≡ true = ap not (sym c.is_empty.ensures) ∙ ap not c.if-is_empty.false in
    leads c.args.node.now c.args.cred.now c.args.name.now some c.file.ensures _ (sym c.in_ok-search.ensures)
    c.requires.plain c.in-Some.next.now c.in-Some.ensures.found c.in-Some.ensures.file

pub returns-in-None-clause-refused : goal.returns-in-None-clause-refused
returns-in-None-clause-refused g c =
    let some : is_component c.args.name.now ≡ true = ap not (sym c.is_empty.ensures) ∙ ap not c.if-is_empty.false in
    lost c.args.node.now c.args.cred.now c.args.name.now some c.file.ensures _ (sym c.in_ok-search.ensures)
    c.requires.plain c.in-None.ensures.absent
