-- Searches that end soon where there is no proof.
use Rattle.std.proofs.Common.{rules}
use Rattle.pf_walk.proofs.calls.rmdir.Goals as goal

pub returns-then-place-clause-changed : goal.returns-then-place-clause-changed
returns-then-place-clause-changed g c = search rules steps 200000

pub returns-then-place-clause-wanted : goal.returns-then-place-clause-wanted
returns-then-place-clause-wanted g c = search rules steps 200000

pub returns-in_err-names-clause-wanted : goal.returns-in_err-names-clause-wanted
returns-in_err-names-clause-wanted g c = search rules steps 1000000

pub remove-requires-clause-empty : goal.remove-requires-clause-empty
remove-requires-clause-empty g c = search rules steps 1000000

pub returns-clause-changed : goal.returns-clause-changed
returns-clause-changed g c = search rules steps 1000000
