use Rattle.std.proofs.Common.{◌≡◌, length, not, true, sym, ap, ◌∙◌, arith}
use Rattle.std.specs.Prelude.{Ok}
use Rattle.std.proofs.lemmas.Bool.Decides.{nat_tests}
use Rattle.pf_machine.specs.Paths.{components, is_component, is_nonempty}
use Rattle.pf_walk.proofs.Places.{in_directory, its_file, its_names, placed, some_names, unnamed}
use Rattle.pf_walk.proofs.calls.plain_place.Goals as goal

pub returns-then-is_empty-clause-refused : goal.returns-then-is_empty-clause-refused
returns-then-is_empty-clause-refused g c =
    let u = c.args.unnamed in
    let at = rw c.in-Some.is at c.in_ok-node.ensures.reached in
    let none : length c.in-Some.name.now ≡ 0 = grind (arith, nat_tests) in
    unnamed u.root u.dot u.dot_dot c.args.tree.now c.args.cred.now c.args.path.now c.in-Some.node.now c.in-Some.name.now
    at none

pub returns-clause-reached : goal.returns-clause-reached
returns-clause-reached g c =
    let u = c.args.unnamed in
    let at = rw c.in-Some.is at c.in_ok-node.ensures.reached in
    let some : is_component c.in-Some.name.now ≡ true = ap not (sym c.is_empty.ensures) ∙ ap not c.if-is_empty.false in
    placed u.root u.dot u.dot_dot c.args.tree.now c.args.cred.now c.args.path.now c.in-Some.node.now c.in-Some.name.now
    at some c.file.result c.file.ensures
    ∙ ap (λ b. Ok (record { path = components c.args.path.now; directory = c.file.result; slash = b }))
    (sym c.has_slash.ensures)

pub returns-clause-place : goal.returns-clause-place
returns-clause-place g c =
    let u = c.args.unnamed in
    let fs = c.args.tree.now in
    let at = rw c.in-Some.is at c.in_ok-node.ensures.reached in
    let some : is_component c.in-Some.name.now ≡ true = ap not (sym c.is_empty.ensures) ∙ ap not c.if-is_empty.false in
    let n = c.in-Some.name.now in (
      some_names u.root u.dot u.dot_dot fs c.args.cred.now c.args.path.now c.in-Some.node.now n at some,
      in_directory u.root u.dot u.dot_dot fs c.args.cred.now c.args.path.now c.in-Some.node.now n at some,
      c.entry_of-file.ensures.file
          ∙ its_file u.root u.dot u.dot_dot fs c.args.cred.now c.args.path.now c.in-Some.node.now n at some,
      c.entry_of-file.ensures.full
          ∙ ap is_nonempty (its_names u.root u.dot u.dot_dot fs c.args.cred.now c.args.path.now c.in-Some.node.now n at some),
    )
