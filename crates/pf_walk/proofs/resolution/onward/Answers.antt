use Rattle.std.proofs.Common.{◌≡◌, not, true, false, sym, ap, ◌∙◌}
use Rattle.pf_machine.specs.Paths.{is_component}
use Rattle.pf_walk.proofs.Plain.{kept_back, led_on}
use Rattle.pf_walk.proofs.resolution.onward.Goals as goal

pub returns-then-is_empty-clause-goes : goal.returns-then-is_empty-clause-goes
returns-then-is_empty-clause-goes g c =
    let none : is_component c.args.name.now ≡ false = ap not (sym c.is_empty.ensures) ∙ ap not c.if-is_empty.true in
    kept_back c.args.node.now c.args.cred.now c.args.last.now c.args.name.now c.requires.plain none

pub returns-clause-goes : goal.returns-clause-goes
returns-clause-goes g c =
    let some : is_component c.args.name.now ≡ true = ap not (sym c.is_empty.ensures) ∙ ap not c.if-is_empty.false in
    led_on c.args.node.now c.args.cred.now c.args.last.now c.args.name.now c.requires.next some c.in_ok-next.next.now
    c.in_ok-next.ensures.goes
