use Rattle.std.proofs.Common.{arith}
use Rattle.pf_frame.specs.Live.{Live, IsSound}
use Rattle.pf_ring.proofs.Changes.{First, is_first}
use Rattle.pf_ring.proofs.windows.discard_front.Goals as goal

pub returns-clause-number : goal.returns-clause-number
returns-clause-number g c =
    let f : Live = g.F.Frames.live c.args.door.now in
    let sound : IsSound f = g.met.F.Frames.sound _ c.requires.door.fact in
    let first : First f c.args.windows.now.items c.index-first.result.now = is_first f _ c.index-first.result.now sound c.requires.door.stands (omega arith) c.index-first.ensures in
    record { some = omega (arith, c.min-number.ensures, first.stands.some.0, c.requires.any); fits = omega (arith, c.min-number.ensures) }
