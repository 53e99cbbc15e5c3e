-- It hands on what its write is told: a refused write leaves what it found, which was swept before. What it adds for
-- frames is that no more are live than slots in use.

use Rattle.std.proofs.Common.{rules}
use Rattle.pf_base.specs.declared.step.Step.TheVariants as steps
use Rattle.pf_tables.proofs.MeaningLaws.{settled-meaning}
use Rattle.pf_tables.proofs.OwnsLaws.{held_occupied}
use Rattle.pf_space.proofs.Steps.{refused_step}
use Rattle.pf_space.proofs.space.Space.write_from.Goals as goal

pub returns-in-Ok-clause-spread : goal.returns-in-Ok-clause-spread
returns-in-Ok-clause-spread g c =
    held_occupied _ c.write.new.self (g.met.F.Frames.sound _ c.write.ensures.door.fact) c.write.ensures.told.owns

pub returns-in-Err-Errno-clause-answers : goal.returns-in-Err-Errno-clause-answers
returns-in-Err-Errno-clause-answers g c =
    let told = rw c.in-Err-Errno.field-0-is at c.in-Err-Errno.ensures.told in
    let still = rw c.self.view_is at c.settled.ensures in
    refused_step c.args.self.now.limits _ _ (steps.Write c.args.pid c.args.fd c.args.bytes.now) _ told.says.0
    told.says.1 (settled-meaning (g.F.Frames.live c.args.door.now) c.args.self.now.state still)

pub returns-in-Err-Errno-clause-spread : goal.returns-in-Err-Errno-clause-spread
returns-in-Err-Errno-clause-spread g c =
    held_occupied _ c.write.new.self (g.met.F.Frames.sound _ c.write.ensures.door.fact) c.write.ensures.told.owns

pub returns-in-Err-NoMemory-clause-spread : goal.returns-in-Err-NoMemory-clause-spread
returns-in-Err-NoMemory-clause-spread g c =
    held_occupied _ c.write.new.self (g.met.F.Frames.sound _ c.write.ensures.door.fact) c.write.ensures.told.owns

pub returns-in-Err-NoMemory-clause-succeeds : goal.returns-in-Err-NoMemory-clause-succeeds
returns-in-Err-NoMemory-clause-succeeds g c = search rules steps 1000000
