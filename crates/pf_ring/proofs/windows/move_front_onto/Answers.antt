use Rattle.std.proofs.Common.{ℕ, List, ◌++◌, ◌∙◌, ap, arith}
use Rattle.pf_ring.proofs.Changes.{is_first}
use Rattle.pf_ring.proofs.Loops.{part_of}
use Rattle.pf_ring.proofs.windows.move_front_onto.Goals as goal

pub front-part-requires-clause-within : goal.front-part-requires-clause-within
front-part-requires-clause-within g c =
    let sound = g.met.F.Frames.sound _ c.requires.door.fact in
    (is_first _ _ c.index-first.result.now sound c.requires.door.stands (omega arith) c.index-first.ensures).ends

pub receive-requires : goal.receive-requires
receive-requires g c =
    let sound = g.met.F.Frames.sound _ c.requires.door.fact in
    let part = part_of _ _ _ _ _ sound c.requires.door.stands (omega arith) c.index-first.ensures c.requires.any c.front-part.ensures in
    record { some = part.0; room = omega (arith, part.1, c.requires.room) }

pub returns-clause-number : goal.returns-clause-number
returns-clause-number g c =
    let sound = g.met.F.Frames.sound _ c.requires.door.fact in
    let part = part_of _ _ _ _ _ sound c.requires.door.stands (omega arith) c.index-first.ensures c.requires.any c.front-part.ensures in
    record { some = part.0; fits = part.1 }

pub returns-clause-received : goal.returns-clause-received
returns-clause-received g c =
    let sound = g.met.F.Frames.sound _ c.requires.door.fact in
    let part = part_of _ _ _ _ _ sound c.requires.door.stands (omega arith) c.index-first.ensures c.requires.any c.front-part.ensures in
    record {
      kept = c.receive.ensures.kept;
      bytes_come = c.receive.ensures.bytes ∙ ap (λ (b : List ℕ). g.O.Receive.received c.args.out.now c.args.place ++ b) part.2;
      room = omega (arith, c.receive.ensures.room);
    }
