use Rattle.std.proofs.Common.{arith}
use Rattle.pf_frame.specs.Live.{Live}
use Rattle.pf_ring.specs.Ring.{Ring}
use Rattle.pf_ring.proofs.WindowLaws.{bytes_in_le, stands_first, stands_second, keeps_stands}
use Rattle.pf_ring.proofs.WindowsShare.{gets, source_shows}
use Rattle.pf_ring.proofs.ring.SlotRing.tee_into.Goals as goal

pub overflow_add-sink : goal.overflow_add-sink
overflow_add-sink g c =
    omega (arith, c.sink.invariant.2, c.sink.invariant.3, c.share-number.ensures.copies.door.frames.bytes, c.share-number.ensures.fits, bytes_in_le c.share-number.new.sink.items c.share-number.ensures.copies.door.frames.keeps.within)

pub returns-clause-sink : goal.returns-clause-sink
returns-clause-sink g c =
    let source : Ring = record { capacity = c.self.inside.slots; segments = c.self.inside.windows.items } in
    let sink : Ring = record { capacity = c.sink.inside.slots; segments = c.sink.inside.windows.items } in
    let copies = c.share-number.ensures.copies in
    gets _ _ source sink _ _ _ _ c.args.n _ c.self.view_is c.sink.view_is (g.met.F.Frames.sound _ c.requires.door.fact)
    (g.met.F.Frames.sound _ copies.door.fact) c.requires.door.stands
    (λ s. keeps_stands _ _ _ _ _ (stands_second _ _ _ s) copies.door.frames.keeps) (omega arith)
    (omega (arith, c.share-number.ensures.fits)) copies.door.frames.bytes c.share-number.ensures.segments

pub returns-clause-source : goal.returns-clause-source
returns-clause-source g c =
    let f : Live = g.F.Frames.live c.args.door.now in
    source_shows f (g.F.Frames.live c.share-number.new.door) c.args.self.now (stands_first f c.args.self.now.segments c.args.sink.now.segments c.requires.door.stands) c.share-number.ensures.copies.door.frames.same
