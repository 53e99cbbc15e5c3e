use Rattle.std.proofs.Common.{arith, length-set, Some}
use Rattle.pf_frame.proofs.CountedLaws.{table_takes, top_within, top_idle}
use Rattle.pf_depot.proofs.PlacesLaws.{lent_takes, is_received, bytes_received}
use Rattle.pf_depot.proofs.loans.Loans.receive.Goals as goal

pub index_mut-requires : goal.index_mut-requires
index_mut-requires c =
    let popped = rw c.unwrap-no.ensures at c.pop.ensures.items in
    omega (arith, top_within _ _ _ _ _ _ popped c.args.self.now.kept)

pub index_mut-requires-2 : goal.index_mut-requires-2
index_mut-requires-2 c =
    let popped = rw c.unwrap-no.ensures at c.pop.ensures.items in
    omega (arith, c.args.self.now.kept.paged, top_within _ _ _ _ _ _ popped c.args.self.now.kept)

pub invariant_of-self : goal.invariant_of-self
invariant_of-self c =
    let s = c.args.self.now in
    let popped = rw c.unwrap-no.ensures at c.pop.ensures.items in
    record {
      kept = rw (length-set s.places.items c.unwrap-no.result (Some c.args.frame)) (table_takes _ _ _ _ _ _ _ popped c.pop.ensures.capacity s.kept);
      lent = lent_takes s.counts.items s.places.items c.unwrap-no.result c.args.frame s.kept.paged (top_within _ _ _ _ _ _ popped s.kept) s.lent;
    }

pub returns-clause-takes : goal.returns-clause-takes
returns-clause-takes c =
    let s = c.args.self.now in
    let popped = rw c.unwrap-no.ensures at c.pop.ensures.items in
    is_received s.counts.items s.places.items c.unwrap-no.result (Some c.args.frame) (top_within _ _ _ _ _ _ popped s.kept) (top_idle _ _ _ _ _ _ popped s.kept)

pub returns-clause-moved : goal.returns-clause-moved
returns-clause-moved c =
    let s = c.args.self.now in
    let popped = rw c.unwrap-no.ensures at c.pop.ensures.items in
    bytes_received s.counts.items s.places.items c.unwrap-no.result c.args.frame s.kept.paged (top_within _ _ _ _ _ _ popped s.kept)
