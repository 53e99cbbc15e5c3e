use Rattle.std.proofs.Common.{arith}
use Rattle.pf_frame.proofs.CountedLaws.{table_takes, top_within, top_idle}
use Rattle.pf_frame.proofs.table.FrameTable.take.Goals as goal

pub index_mut-requires : goal.index_mut-requires
index_mut-requires c =
    let popped = rw c.unwrap-no.ensures at c.pop.ensures.items in
    omega (arith, top_within _ _ _ _ _ _ popped c.args.self.now.kept)

pub invariant_of-self : goal.invariant_of-self
invariant_of-self c =
    let popped = rw c.unwrap-no.ensures at c.pop.ensures.items in
    record { kept = table_takes _ _ _ _ _ _ _ popped c.pop.ensures.capacity c.args.self.now.kept }

pub returns-clause-vacant : goal.returns-clause-vacant
returns-clause-vacant c =
    let popped = rw c.unwrap-no.ensures at c.pop.ensures.items in
    top_idle _ _ _ _ _ _ popped c.args.self.now.kept
