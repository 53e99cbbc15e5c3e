use Rattle.std.proofs.Common.{refl, sym, ◌∙◌, arith}
use Rattle.std.proofs.lemmas.List.{append-nil}
use Rattle.pf_ring.proofs.Loops.{cut_nothing, cut_then, drops_stands, taken_then}
use Rattle.pf_ring.proofs.StepsLaws.{one_step, steps_then}
use Rattle.pf_ring.proofs.windows.move_onto.Goals as goal

pub loop-done-init : goal.loop-done-init
loop-done-init g c = record {
  within = omega arith;
  stands = c.requires.door.stands;
  cut = one_step c.requires.door.fact refl refl
      (cut_nothing _ _ (g.met.F.Frames.sound _ c.requires.door.fact) c.requires.door.stands);
  received = record { kept = refl; bytes_come = sym (append-nil _); room = omega arith };
}

pub move_front_onto-done-requires-clause-room : goal.move_front_onto-done-requires-clause-room
move_front_onto-done-requires-clause-room g c = omega (arith, c.requires.room, c.loop-done.invariant.received.room)

pub loop-done-preserved : goal.loop-done-preserved
loop-done-preserved g c =
    let cut = c.loop-done.invariant.cut.door.frames in
    let before = c.loop-done.invariant.received in
    let now = c.move_front_onto-done.ensures.received in
    record {
      within = omega arith;
      stands = drops_stands _ _ _ _ c.loop-done.invariant.stands c.move_front_onto-done.ensures.cut.door.frames.drops;
      cut = steps_then c.loop-done.invariant.cut c.move_front_onto-done.ensures.cut
          (cut_then _ _ _ _ _ _ _ _ cut c.move_front_onto-done.ensures.cut.door.frames);
      received = record {
        kept = now.kept ∙ before.kept;
        bytes_come = taken_then _ _ _ _ _ _ _ _ _ cut before.bytes_come now.bytes_come;
        room = omega (arith, before.room, now.room);
      };
    }
