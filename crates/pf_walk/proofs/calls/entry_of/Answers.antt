use Rattle.std.proofs.Common.{[], sym, ap, ◌∙◌}
use Rattle.pf_machine.specs.FileMap.{find, names_below}
use Rattle.pf_machine.specs.Paths.{is_nonempty}
use Rattle.pf_tree.proofs.SubtreeLaws.{find_under}
use Rattle.pf_walk.proofs.calls.entry_of.Goals as goal

pub returns-in-None-clause-file : goal.returns-in-None-clause-file
returns-in-None-clause-file g c =
    sym (find_under c.args.name.now [] c.args.node.now ∙ ap (find []) c.in-None.ensures.absent)

pub returns-in-None-clause-full : goal.returns-in-None-clause-full
returns-in-None-clause-full g c = ap (λ d. is_nonempty (names_below [] d)) (sym c.in-None.ensures.absent)

pub returns-in-Some-clause-file : goal.returns-in-Some-clause-file
returns-in-Some-clause-file g c =
    sym (find_under c.args.name.now [] c.args.node.now ∙ ap (find []) (sym c.in-Some.ensures.found) ∙ c.file.ensures)

pub returns-in-Some-clause-full : goal.returns-in-Some-clause-full
returns-in-Some-clause-full g c =
    c.has_names.ensures ∙ ap (λ d. is_nonempty (names_below [] d)) c.in-Some.ensures.found
