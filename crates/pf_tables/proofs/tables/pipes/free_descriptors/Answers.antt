use Rattle.std.proofs.Common.{arith}
use Rattle.pf_tables.proofs.PipesOpen.{in_order, has_none, second_is, has_two}
use Rattle.pf_tables.proofs.tables.pipes.free_descriptors.Goals as goal

pub returns-then-first-ge-MAX_DESCRIPTORS-clause-found : goal.returns-then-first-ge-MAX_DESCRIPTORS-clause-found
returns-then-first-ge-MAX_DESCRIPTORS-clause-found c =
    has_none _
    (omega (arith, in_order c.args.descriptors.now, c.lowest-first.ensures.lowest, c.if-first-ge-MAX_DESCRIPTORS.true))

pub returns-then-second-ge-MAX_DESCRIPTORS-clause-found : goal.returns-then-second-ge-MAX_DESCRIPTORS-clause-found
returns-then-second-ge-MAX_DESCRIPTORS-clause-found c =
    let second = second_is _ _ c.lowest-first.ensures.lowest _ c.next_lowest-second.ensures.lowest in
    has_none _ (omega (arith, second, c.if-second-ge-MAX_DESCRIPTORS.true))

pub returns-clause-found : goal.returns-clause-found
returns-clause-found c =
    has_two _ _ c.lowest-first.ensures.lowest _ c.next_lowest-second.ensures.lowest
    (omega (arith, c.if-second-ge-MAX_DESCRIPTORS.false))
