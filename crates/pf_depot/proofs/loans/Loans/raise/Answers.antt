use Rattle.std.proofs.Common.{◌≡◌, ◌<◌, arith, slice_index, length}
use Rattle.std.proofs.lemmas.List.{get_or_read}
use Rattle.pf_frame.proofs.CountedLaws.{table_counts}
use Rattle.pf_frame.specs.Sound.{counted_within}
use Rattle.pf_depot.proofs.PlacesLaws.{lent_counts, is_raised}
use Rattle.pf_depot.proofs.loans.Loans.raise.Goals as goal

pub invariant_of-self : goal.invariant_of-self
invariant_of-self c =
    let s = c.args.self.now in
    let less : c.args.no < length s.counts.items = counted_within s.counts.items c.args.no (omega arith) in
    let read : c.index_mut.result.now ≡ slice_index s.counts.items c.args.no = get_or_read s.counts.items c.args.no c.index_mut.result.now less c.index_mut.ensures.value 0 in
    record { kept = table_counts _ _ _ _ _ _ s.kept c.requires.is_live (omega arith); lent = lent_counts s.counts.items s.places.items c.args.no _ c.requires.is_live (omega (arith, read)) s.lent }

pub returns : goal.returns
returns c =
    let s = c.args.self.now in
    let less : c.args.no < length s.counts.items = counted_within s.counts.items c.args.no c.requires.is_live in
    is_raised s.counts.items _ c.args.no c.index_mut.result.now c.requires.is_live (get_or_read s.counts.items c.args.no c.index_mut.result.now less c.index_mut.ensures.value 0)
