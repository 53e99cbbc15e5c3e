use Rattle.std.proofs.Common.{ap, refl, ◌∙◌, inl, arith}
use Rattle.std.specs.VecDeque.{deque_capacity}
use Rattle.pf_frame.specs.Live.{Live}
use Rattle.pf_ring.specs.declared.ring.Window.{Window}
use Rattle.pf_ring.proofs.Changes.{First}
use Rattle.pf_ring.proofs.WindowsShift.{first, live_now, set_first, shifting_none, shifting_whole, shifting_cut, shifting_end, shifted, sink_shown, moved_all}
use Rattle.pf_ring.proofs.StepsLaws.{one_step, steps_are}
use Rattle.pf_ring.proofs.windows.shift.Goals.{then-first-part, else-first-part}
use Rattle.pf_ring.proofs.windows.shift.Goals as goal

pub loop-init : goal.loop-init
loop-init g c = record {
  source_space = refl;
  shifting = one_step c.requires.door.fact refl refl (shifting_none (g.F.Frames.live c.args.door.now) c.args.source.now.items c.args.sink.now.items c.args.slots c.args.n _ (g.met.F.Frames.sound _ c.requires.door.fact) c.requires.door.stands (omega arith));
}

pub share-requires-clause-is_live : goal.share-requires-clause-is_live
share-requires-clause-is_live g c =
    live_now (g.F.Frames.live c.args.door.now) _ _ _ _ _ _ _ _ _ _ c.index-first.result.now (g.met.F.Frames.sound _ c.requires.door.fact) c.requires.door.stands c.loop.invariant.shifting.door.frames (omega arith) c.index-first.ensures

pub overflow_add-first : goal.overflow_add-first
overflow_add-first g c =
    let at : First (g.F.Frames.live c.args.door.now) c.loop.source.items c.index-first.result.now =
    first (g.F.Frames.live c.args.door.now) _ _ _ _ _ _ _ _ _ _ c.index-first.result.now (g.met.F.Frames.sound _ c.requires.door.fact) c.requires.door.stands c.loop.invariant.shifting.door.frames (omega arith) c.index-first.ensures in
    omega (arith, at.ends)

pub loop-preserved : goal.loop-preserved
loop-preserved g c =
    let f : Live = g.F.Frames.live c.args.door.now in
    let w : Window = c.index-first.result.now in
    let at : First f c.loop.source.items w =
    first f _ _ _ _ _ _ _ _ _ _ w (g.met.F.Frames.sound _ c.requires.door.fact) c.requires.door.stands c.loop.invariant.shifting.door.frames (omega arith) c.index-first.ensures in
    let before = c.loop.invariant.shifting in
    elim c.if-first-part.branch [
      | then-first-part b ↦ record {
        source_space = ap deque_capacity b.source-is ∙ c.loop.invariant.source_space;
        shifting =
            rw b.door-is
            (one_step b.share.ensures.fact (b.share.ensures.rest ∙ before.door.rest) (c.push_back_reserved.ensures.capacity ∙ before.space) (shifting_cut f (g.F.Frames.live c.loop.door) c.args.source.now.items c.loop.source.items c.args.sink.now.items c.loop.sink.items c.args.slots c.args.n c.loop.counter c.loop.done _ w (g.met.F.Frames.sound _ c.requires.door.fact) c.requires.door.stands c.loop.invariant.shifting.door.frames (omega arith) c.index-first.ensures
            (g.F.Frames.live b.share.new.self) c.min-part.result _ _ c.min-part.ensures b.if-first-part.true (omega (arith, c.loop.invariant.shifting.door.frames.number)) (omega (arith, c.loop.invariant.shifting.door.frames.within)) b.share.ensures.shares
            (ap (λ d. d.items) b.source-is ∙ set_first f c.loop.source.items w _ at) c.push_back_reserved.ensures.items));
      }
      | else-first-part b ↦ record {
        source_space = ap deque_capacity b.source-is ∙ (b.pop_front.ensures.capacity ∙ c.loop.invariant.source_space);
        shifting =
            rw b.door-is
            (one_step before.door.fact before.door.rest (c.push_back_reserved.ensures.capacity ∙ before.space) (shifting_whole f (g.F.Frames.live c.loop.door) c.args.source.now.items c.loop.source.items c.args.sink.now.items c.loop.sink.items c.args.slots c.args.n c.loop.counter c.loop.done _ w (g.met.F.Frames.sound _ c.requires.door.fact) c.requires.door.stands c.loop.invariant.shifting.door.frames (omega arith) c.index-first.ensures
            c.min-part.result _ _ c.min-part.ensures (omega (arith, b.if-first-part.false)) (omega (arith, c.loop.invariant.shifting.door.frames.number)) (omega (arith, c.loop.invariant.shifting.door.frames.within))
            (ap (λ d. d.items) b.source-is ∙ b.pop_front.ensures.rest) c.push_back_reserved.ensures.items));
      }
    ]

pub returns-after-loop-clause-segments : goal.returns-after-loop-clause-segments
returns-after-loop-clause-segments g c =
    sink_shown _ _ _ _ _ _ _ _ _ _ _ c.requires.door.stands c.loop.invariant.shifting.door.frames
    ∙ shifting_end _ _ _ _ _ _ _ _ _ _ _ c.loop.invariant.shifting.door.frames (moved_all _ _ _ _ _ _ _ _ _ _ _ c.loop.invariant.shifting.door.frames (omega arith))

pub returns-after-loop-clause-shifts : goal.returns-after-loop-clause-shifts
returns-after-loop-clause-shifts g c = steps_are c.loop.invariant.shifting (shifted _ _ _ _ _ _ _ _ _ _ _ c.requires.door.stands c.loop.invariant.shifting.door.frames)

pub returns-then-done-n-clause-segments : goal.returns-then-done-n-clause-segments
returns-then-done-n-clause-segments g c =
    sink_shown _ _ _ _ _ _ _ _ _ _ _ c.requires.door.stands c.loop.invariant.shifting.door.frames ∙ shifting_end _ _ _ _ _ _ _ _ _ _ _ c.loop.invariant.shifting.door.frames (inl (omega (arith, c.if-done-n.true)))

pub returns-then-done-n-clause-shifts : goal.returns-then-done-n-clause-shifts
returns-then-done-n-clause-shifts g c = steps_are c.loop.invariant.shifting (shifted _ _ _ _ _ _ _ _ _ _ _ c.requires.door.stands c.loop.invariant.shifting.door.frames)
