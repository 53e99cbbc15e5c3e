use Rattle.std.proofs.Common.{refl, arith}
use Rattle.pf_ring.proofs.Loops.{cut_nothing, cut_then, drops_stands}
use Rattle.pf_ring.proofs.StepsLaws.{one_step, steps_then}
use Rattle.pf_ring.proofs.windows.discard.Goals as goal

pub loop-done-init : goal.loop-done-init
loop-done-init g c = record {
  within = omega arith;
  stands = c.requires.door.stands;
  cut = one_step c.requires.door.fact refl refl
      (cut_nothing _ _ (g.met.F.Frames.sound _ c.requires.door.fact) c.requires.door.stands);
}

pub loop-done-preserved : goal.loop-done-preserved
loop-done-preserved g c = record {
  within = omega arith;
  stands = drops_stands _ _ _ _ c.loop-done.invariant.stands c.discard_front-done.ensures.cut.door.frames.drops;
  cut = steps_then c.loop-done.invariant.cut c.discard_front-done.ensures.cut
      (cut_then _ _ _ _ _ _ _ _ c.loop-done.invariant.cut.door.frames c.discard_front-done.ensures.cut.door.frames);
}
