use Rattle.std.proofs.Common.{◌∙◌, ap, arith, rules}
use Rattle.pf_machine.specs.Queue.{after_take}
use Rattle.pf_frame.specs.Live.{Live}
use Rattle.pf_ring.specs.Calls.{Gets}
use Rattle.pf_ring.specs.Ring.{Ring, queue_of}
use Rattle.pf_ring.proofs.WindowLaws.{bytes_in_le}
use Rattle.pf_ring.proofs.WindowsShare.{gets, moves_stand}
use Rattle.pf_ring.proofs.ring.SlotRing.splice_into.Given.{Over}
use Rattle.pf_ring.proofs.ring.SlotRing.splice_into.Goals.{After-shift-moved}
use Rattle.pf_ring.proofs.ring.SlotRing.splice_into.Goals as goal

put : (g : Over) (c : After-shift-moved g)
    → Gets (g.F.Frames.live c.args.door.now) (g.F.Frames.live c.shift-moved.new.door) c.args.self.now c.args.sink.now
    (record { capacity = c.sink.inside.slots; segments = c.shift-moved.new.sink.items }) c.args.n c.shift-moved.result
put g c =
    let source : Ring = record { capacity = c.self.inside.slots; segments = c.self.inside.windows.items } in
    let sink : Ring = record { capacity = c.sink.inside.slots; segments = c.sink.inside.windows.items } in
    let shifts = c.shift-moved.ensures.shifts in
    gets _ _ source sink _ _ _ _ c.args.n _ c.self.view_is c.sink.view_is (g.met.F.Frames.sound _ c.requires.door.fact)
    (g.met.F.Frames.sound _ shifts.door.fact) c.requires.door.stands
    (λ s. moves_stand _ _ _ _ _ _ s shifts.door.frames.moves) (omega arith)
    (omega (arith, c.shift-moved.ensures.fits)) shifts.door.frames.bytes c.shift-moved.ensures.segments

pub overflow_add-sink : goal.overflow_add-sink
overflow_add-sink g c =
    omega (arith, c.sink.invariant.2, c.sink.invariant.3, c.shift-moved.ensures.shifts.door.frames.bytes, c.shift-moved.ensures.fits, bytes_in_le c.shift-moved.new.sink.items c.shift-moved.ensures.shifts.door.frames.moves.copied.within)

pub returns-clause-sink : goal.returns-clause-sink
returns-clause-sink g c = put g (goal.at.returns-clause-sink g c).After-shift-moved

pub returns-clause-source : goal.returns-clause-source
returns-clause-source g c =
    let f : Live = g.F.Frames.live c.args.door.now in
    record {
      capacity = search rules;
      fits = search rules;
      queue = (λ i. record { capacity = c.self.inside.slots; segments = c.shift-moved.ensures.shifts.door.frames.left i })
          ∙ ap (λ (r : Ring). after_take (queue_of f r) c.shift-moved.result) c.self.view_is
          ∙ ap (after_take (queue_of f c.args.self.now)) (put g (goal.at.returns-clause-source g c).After-shift-moved).number_is;
    }
