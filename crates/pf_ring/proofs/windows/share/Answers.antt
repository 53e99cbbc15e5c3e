use Rattle.std.proofs.Common.{List, refl, ◌∙◌, inl, inr, arith}
use Rattle.pf_frame.specs.Live.{Live}
use Rattle.pf_ring.specs.declared.ring.Window.{Window}
use Rattle.pf_ring.specs.Windows.{Stands}
use Rattle.pf_ring.proofs.WindowLaws.{stands_first}
use Rattle.pf_ring.proofs.WindowsShare.{Source, is_source, sharing_none, sharing_more, sharing_end, all_or_full}
use Rattle.pf_ring.proofs.StepsLaws.{one_step}
use Rattle.pf_ring.proofs.windows.share.Goals as goal

pub loop-place-init : goal.loop-place-init
loop-place-init g c = record {
  sharing = one_step c.requires.door.fact refl refl (sharing_none (g.F.Frames.live c.args.door.now) c.args.source.now.items c.args.sink.now.items c.args.slots c.args.n _ c.requires.door.stands (omega arith));
}

pub share-requires-clause-is_live : goal.share-requires-clause-is_live
share-requires-clause-is_live g c =
    let f : Live = g.F.Frames.live c.args.door.now in
    let src : List Window = c.args.source.now.items in
    let stands : Stands f src = stands_first f src c.args.sink.now.items c.requires.door.stands in
    let at : Source f src c.loop-place.place c.index-window.result.now = is_source f src _ _ (g.met.F.Frames.sound _ c.requires.door.fact) stands (omega arith) c.index-window.ensures in
    omega (arith, at.live, c.loop-place.invariant.sharing.door.frames.copies.more c.index-window.result.now.frame)

pub loop-place-preserved : goal.loop-place-preserved
loop-place-preserved g c = record {
  sharing =
      let f : Live = g.F.Frames.live c.args.door.now in
      let src : List Window = c.args.source.now.items in
      let stands : Stands f src = stands_first f src c.args.sink.now.items c.requires.door.stands in
      let before = c.loop-place.invariant.sharing in
      one_step c.share.ensures.fact (c.share.ensures.rest ∙ before.door.rest) (c.push_back_reserved.ensures.capacity ∙ before.space)
      (sharing_more f (g.F.Frames.live c.loop-place.door) (g.F.Frames.live c.share.new.self) src c.args.sink.now.items c.loop-place.sink.items c.push_back_reserved.new.self.items c.args.slots c.args.n c.loop-place.place c.loop-place.done c.min-number.result _ c.index-window.result.now
      (g.met.F.Frames.sound _ c.requires.door.fact) stands before.door.frames (omega arith) (omega (arith, before.door.frames.number)) (omega (arith, before.door.frames.within)) c.index-window.ensures c.min-number.ensures c.share.ensures.shares c.push_back_reserved.ensures.items);
}

pub returns-after-loop-place-clause-segments : goal.returns-after-loop-place-clause-segments
returns-after-loop-place-clause-segments g c =
    sharing_end _ _ _ _ _ _ _ _ _ _ c.loop-place.invariant.sharing.door.frames (inr (all_or_full _ _ _ _ _ c.loop-place.invariant.sharing.door.frames.number (omega arith)))

pub returns-then-done-n-clause-segments : goal.returns-then-done-n-clause-segments
returns-then-done-n-clause-segments g c =
    sharing_end _ _ _ _ _ _ _ _ _ _ c.loop-place.invariant.sharing.door.frames (inl (omega (arith, c.if-done-n.true)))
