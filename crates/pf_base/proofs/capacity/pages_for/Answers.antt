use Rattle.std.proofs.Common.{arith}
use Rattle.pf_base.proofs.CapacityLaws.{next_power-least, pages_for-least, same_least}
use Rattle.pf_base.proofs.capacity.pages_for.Goals as goal

pub returns-clause-number : goal.returns-clause-number
returns-clause-number c =
    let next = c.next_power_of_two.ensures in
    same_least c.args.bytes _ _
    (next_power-least c.args.bytes _ next.power (omega (arith, next.lower_bound, c.div_ceil.ensures)) (omega (arith, next.upper_bound, c.div_ceil.ensures)))
    (pages_for-least c.args.bytes c.ranges.bytes.fits)

pub returns-clause-least : goal.returns-clause-least
returns-clause-least c =
    let next = c.next_power_of_two.ensures in
    next_power-least c.args.bytes _ next.power (omega (arith, next.lower_bound, c.div_ceil.ensures)) (omega (arith, next.upper_bound, c.div_ceil.ensures))
