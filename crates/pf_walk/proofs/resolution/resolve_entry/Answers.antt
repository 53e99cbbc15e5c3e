-- Searches that end soon where there is no proof.
use Rattle.std.proofs.Common.{rules}
use Rattle.pf_walk.proofs.resolution.resolve_entry.Goals as goal

pub returns-in_err-cut-clause-told : goal.returns-in_err-cut-clause-told
returns-in_err-cut-clause-told g c = search rules steps 200000

pub returns-in_err-cut-clause-wanted : goal.returns-in_err-cut-clause-wanted
returns-in_err-cut-clause-wanted g c = search rules steps 200000

pub returns-clause-wanted : goal.returns-clause-wanted
returns-clause-wanted g c = search rules steps 200000

pub returns-clause-told : goal.returns-clause-told
returns-clause-told g c = search rules steps 1000000
