-- The last digit alone changes, where it isn't a nine.
use Rattle.std.proofs.Common.{rules, ◌≤◌, length, sym, ◌∙◌, arith}
use Rattle.pf_script.proofs.Counting.{grown, short}
use Rattle.pf_script.proofs.count.Count.step.Goals as goal

pub push-requires : goal.push-requires
push-requires c =
    let most : length c.self.inside.digits.items ≤ 20 =
    rw c.self.invariant (short c.self.inside.number (omega (arith, c.requires, c.self.view_is))) in
    (omega arith, omega (arith, most, c.in-Some.ensures.len))

pub invariant_of-self : goal.invariant_of-self
invariant_of-self c =
    rw c.push.ensures.items
    (sym (grown c.self.inside.number c.pop.new.self.items c.in-Some.last (omega (arith, c.requires, c.self.view_is))
    (sym c.self.invariant ∙ c.in-Some.ensures.items) c.if-last-lt57.true))

pub invariant_of-self-in_default : goal.invariant_of-self-in_default
invariant_of-self-in_default c = search rules steps 100000
