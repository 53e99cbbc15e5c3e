use Rattle.std.proofs.Common.{◌≡◌, ℕ, min, List, ◌++◌, length, take, drop, ◌∙◌, ap, subst, arith}
use Rattle.std.proofs.lemmas.List.{length-take}
use Rattle.pf_machine.specs.Queue.{joined}
use Rattle.pf_ring.specs.Ring.{Ring, shown}
use Rattle.pf_ring.specs.Windows.{bytes_in}
use Rattle.pf_ring.specs.Steps.{Cut}
use Rattle.pf_ring.proofs.Loops.{taken_all, gives}
use Rattle.pf_ring.proofs.ring.SlotRing.take_into.Goals as goal

pub returns-clause-bytes : goal.returns-clause-bytes
returns-clause-bytes g c =
    let least : c.min-number.result ≡ min (bytes_in c.args.self.now.segments) (length c.args.buffer.now) = omega (arith, c.min-number.ensures, c.len.ensures.number) in
    let size : length (take c.min-number.result c.args.buffer.now) ≡ c.min-number.result = omega (arith, least, length-take c.min-number.result c.args.buffer.now) in
    ap (λ (b : List ℕ). b ++ drop c.min-number.result c.args.buffer.now) (c.move_into.ensures.bytes
    ∙ (ap (λ (r : Ring). take (length (take c.min-number.result c.args.buffer.now)) (joined (shown (g.F.Frames.live c.args.door.now) r.segments))) c.self.view_is
    ∙ (ap (λ (n : ℕ). take n (joined (shown (g.F.Frames.live c.args.door.now) c.args.self.now.segments))) size ∙ taken_all _ _ _ _ (g.met.F.Frames.sound _ c.requires.door.fact) c.requires.door.stands least)))

pub returns-clause-ring : goal.returns-clause-ring
returns-clause-ring g c =
    let size : length (take c.min-number.result c.args.buffer.now) ≡ c.min-number.result = omega (arith, c.min-number.ensures, length-take c.min-number.result c.args.buffer.now) in
    gives _ _ _ _ _ _ _ _ c.self.view_is (g.met.F.Frames.sound _ c.requires.door.fact) c.requires.door.stands (omega (arith, c.self.invariant.0))
    (omega (arith, c.min-number.ensures, c.len.ensures.number))
    (subst (λ (n : ℕ). Cut n c.self.inside.windows.items c.move_into.new.windows.items (g.F.Frames.live c.args.door.now) (g.F.Frames.live c.move_into.new.door)) size c.move_into.ensures.cut.door.frames)
