-- What a call on files leaves keeps their limits, whether it was made or not.

use Rattle.std.proofs.Common.{Result, Ok, Err, sym, subst}
use Rattle.pf_tables.proofs.Common.{Errno, Fault, Files}
use Rattle.pf_base.specs.declared.fault.Fault.TheVariants as faults
use Rattle.pf_machine.specs.FileLimits.{IsWithin}
use Rattle.pf_machine.proofs.HoldsLaws.{Holds}
use Rattle.pf_walk.specs.Told.{Changed}

pub within : (result : Result (Unit {0}) Fault) (old new : Files) (answer : Result Files Errno) → IsWithin old
    → Changed result old new answer → Holds IsWithin answer → IsWithin new
within (Ok x) old new answer w c h = subst (Holds IsWithin) c h
within (Err (faults.Errno e)) old new answer w c h = subst IsWithin (sym c.1) w
within (Err faults.NoMemory) old new answer w c h = subst IsWithin (sym c) w
