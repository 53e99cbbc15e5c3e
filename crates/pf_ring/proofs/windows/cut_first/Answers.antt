use Rattle.std.proofs.Common.{drop, refl, arith}
use Rattle.pf_frame.specs.Live.{Live, IsSound}
use Rattle.pf_ring.proofs.Changes.{First, is_first}
use Rattle.pf_ring.proofs.Segments.{cut_first, gone_first}
use Rattle.pf_ring.proofs.StepsLaws.{one_step, steps_are}
use Rattle.pf_ring.proofs.windows.cut_first.Goals as goal

pub overflow_add-first : goal.overflow_add-first
overflow_add-first g c =
    let f : Live = g.F.Frames.live c.args.door.now in
    let sound : IsSound f = g.met.F.Frames.sound _ c.requires.door.fact in
    let first : First f c.args.windows.now.items c.args.first = is_first f _ c.args.first sound c.requires.door.stands (omega arith) c.requires.first in
    omega (arith, first.ends)

pub returns-then-number-first : goal.returns-then-number-first
returns-then-number-first g c =
    let f : Live = g.F.Frames.live c.args.door.now in
    let sound : IsSound f = g.met.F.Frames.sound _ c.requires.door.fact in
    let first : First f c.args.windows.now.items c.args.first = is_first f _ c.args.first sound c.requires.door.stands (omega arith) c.requires.first in
    record { cut = one_step c.requires.door.fact refl refl (rw first.split (cut_first f c.args.first (drop 1 c.args.windows.now.items) c.args.number sound first.stands c.if-number-first.true)) }

pub returns-else-number-first : goal.returns-else-number-first
returns-else-number-first g c =
    let f : Live = g.F.Frames.live c.args.door.now in
    let sound : IsSound f = g.met.F.Frames.sound _ c.requires.door.fact in
    let first : First f c.args.windows.now.items c.args.first = is_first f _ c.args.first sound c.requires.door.stands (omega arith) c.requires.first in
    record { cut = steps_are c.drop_front.ensures.drops (gone_first f _ c.args.windows.now.items _ c.args.first c.args.number sound c.requires.door.stands first (omega arith) c.drop_front.ensures.windows c.drop_front.ensures.drops.door.frames) }
