-- It hands on what its read is told. What it adds for frames is that no more are live than slots in use.

use Rattle.pf_tables.proofs.MeaningLaws.{settled-meaning}
use Rattle.pf_tables.proofs.OwnsLaws.{held_occupied}
use Rattle.pf_space.proofs.Steps.{read_step}
use Rattle.pf_space.proofs.space.Space.read_into.Goals as goal

pub returns-clause-answers : goal.returns-clause-answers
returns-clause-answers g c =
    let still = rw c.self.view_is at c.settled.ensures in
    read_step (g.F.Frames.live c.args.door.now) _ c.args.self.now _ _ _ _ _ _ c.fill.ensures.told
    (settled-meaning (g.F.Frames.live c.args.door.now) c.args.self.now.state still)

pub returns-clause-spread : goal.returns-clause-spread
returns-clause-spread g c =
    held_occupied _ c.fill.new.self (g.met.F.Frames.sound _ c.fill.ensures.door.fact) c.fill.ensures.told.owns
