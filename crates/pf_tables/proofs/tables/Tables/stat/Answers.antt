use Rattle.std.proofs.Common.{refl}
use Rattle.pf_machine.specs.Files.{stat}
use Rattle.pf_base.specs.declared.meta.Meta.{Meta}
use Rattle.pf_tables.proofs.Files.{tells, tells_not}
use Rattle.pf_tables.proofs.tables.Tables.stat.Goals as goal

pub returns-in-Ok-clause-says : goal.returns-in-Ok-clause-says
returns-in-Ok-clause-says g c =
    tells c.self.invariant.kept.tied c.self.view_is _ c.in_ok-cred.ensures (λ t q. stat t q c.args.path.now) _ _ refl
    (rw c.tree.ensures at c.in-Ok.ensures.told) refl

pub returns-in-Err-clause-says : goal.returns-in-Err-clause-says
returns-in-Err-clause-says g c =
    tells_not c.self.invariant.kept.tied c.self.view_is _ c.in_ok-cred.ensures (λ t q. stat t q c.args.path.now) _ _
    refl (λ (m : Meta). m) c.args.self.now c.in-Err.fault (rw c.tree.ensures at c.in-Err.ensures.told)
