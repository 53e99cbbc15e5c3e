use Rattle.std.proofs.Common.{◌<◌, length, arith, length-set, refl}
use Rattle.pf_frame.proofs.CountedLaws.{table_room, table_releases_last}
use Rattle.pf_frame.specs.Sound.{counted_within}
use Rattle.pf_depot.proofs.PlacesLaws.{lent_gives, is_given}
use Rattle.pf_depot.proofs.loans.Loans.hand_back.Goals as goal

pub push_reserved-requires : goal.push_reserved-requires
push_reserved-requires c = omega (arith, table_room _ _ c.args.no _ _ c.args.self.now.kept (omega arith))

pub invariant_of-self : goal.invariant_of-self
invariant_of-self c =
    let s = c.args.self.now in
    let less : c.args.no < length s.counts.items = counted_within s.counts.items c.args.no (omega arith) in
    record {
      kept = rw (length-set s.places.items c.args.no c.take.new.self) (table_releases_last _ _ _ _ _ _ _ _ refl c.push_reserved.ensures.items c.push_reserved.ensures.capacity s.kept (omega arith));
      lent = rw c.take.ensures.after (lent_gives s.counts.items s.places.items c.args.no s.kept.paged less s.lent);
    }

pub returns-clause-gives : goal.returns-clause-gives
returns-clause-gives c =
    let s = c.args.self.now in
    is_given s.counts.items s.places.items c.args.no _ c.requires
