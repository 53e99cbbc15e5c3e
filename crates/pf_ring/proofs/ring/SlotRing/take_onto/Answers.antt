use Rattle.std.proofs.Common.{rules, ◌≡◌, ℕ, min, List, ◌++◌, take, ◌∙◌, ap, arith}
use Rattle.pf_machine.specs.Queue.{joined}
use Rattle.pf_ring.specs.Ring.{Ring, shown}
use Rattle.pf_ring.specs.Windows.{bytes_in}
use Rattle.pf_ring.proofs.Loops.{taken_all, gives}
use Rattle.pf_ring.proofs.ring.SlotRing.take_onto.Goals as goal

pub returns-clause-ring : goal.returns-clause-ring
returns-clause-ring g c =
    gives _ _ _ _ _ _ _ _ c.self.view_is (g.met.F.Frames.sound _ c.requires.door.fact) c.requires.door.stands (omega (arith, c.self.invariant.0))
    (omega (arith, c.min-taken.ensures, c.len.ensures.number)) c.move_onto.ensures.cut.door.frames

pub returns-clause-bytes : goal.returns-clause-bytes
returns-clause-bytes g c =
    let least : c.min-taken.result ≡ min (bytes_in c.args.self.now.segments) c.args.most = omega (arith, c.min-taken.ensures, c.len.ensures.number) in
    c.move_onto.ensures.received.bytes_come ∙ ap (λ (b : List ℕ). c.args.out.now.items ++ b)
    (ap (λ (r : Ring). take c.min-taken.result (joined (shown (g.F.Frames.live c.args.door.now) r.segments))) c.self.view_is ∙ taken_all _ _ _ _ (g.met.F.Frames.sound _ c.requires.door.fact) c.requires.door.stands least)

pub invariant_of-self : goal.invariant_of-self
invariant_of-self g c = search rules steps 200000
