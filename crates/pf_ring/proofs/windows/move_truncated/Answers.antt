use Rattle.std.proofs.Common.{◌≡◌, ℕ, ◌+◌, ◌-◌, length, subst, arith}
use Rattle.pf_ring.specs.Steps.{Cut}
use Rattle.pf_ring.proofs.Loops.{cut_then, drops_stands}
use Rattle.pf_ring.proofs.StepsLaws.{steps_then}
use Rattle.pf_ring.proofs.windows.move_truncated.Goals as goal

pub discard-requires-clause-door : goal.discard-requires-clause-door
discard-requires-clause-door g c =
    record { fact = c.move_into.ensures.cut.door.fact; stands = drops_stands _ _ _ _ c.requires.door.stands c.move_into.ensures.cut.door.frames.drops }

pub discard-requires-clause-has : goal.discard-requires-clause-has
discard-requires-clause-has g c = omega (arith, c.requires.has, c.requires.fits, c.move_into.ensures.cut.door.frames.bytes)

pub returns-clause-cut : goal.returns-clause-cut
returns-clause-cut g c =
    let all : length c.args.buffer.now + (c.args.number - length c.args.buffer.now) ≡ c.args.number = omega (arith, c.requires.fits) in
    steps_then c.move_into.ensures.cut c.discard.ensures.cut (subst (λ (n : ℕ). Cut n c.args.windows.now.items c.discard.new.windows.items (g.F.Frames.live c.args.door.now) (g.F.Frames.live c.discard.new.door)) all
    (cut_then _ _ _ _ _ _ _ _ c.move_into.ensures.cut.door.frames c.discard.ensures.cut.door.frames))
