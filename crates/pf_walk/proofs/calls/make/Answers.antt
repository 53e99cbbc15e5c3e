-- Searches that end soon where there is no proof.
use Rattle.std.proofs.Common.{rules}
use Rattle.pf_walk.proofs.calls.make.Goals as goal

pub returns-then-count-gt-MAX_FILES-clause-wanted : goal.returns-then-count-gt-MAX_FILES-clause-wanted
returns-then-count-gt-MAX_FILES-clause-wanted g c = search rules steps 200000

pub returns-in_err-may_change-clause-changed : goal.returns-in_err-may_change-clause-changed
returns-in_err-may_change-clause-changed g c = search rules steps 1000000

pub returns-then-count-gt-MAX_FILES-clause-changed : goal.returns-then-count-gt-MAX_FILES-clause-changed
returns-then-count-gt-MAX_FILES-clause-changed g c = search rules steps 1000000

pub returns-in_err-names-clause-wanted : goal.returns-in_err-names-clause-wanted
returns-in_err-names-clause-wanted g c = search rules steps 1000000

pub returns-in_err-insert-clause-wanted : goal.returns-in_err-insert-clause-wanted
returns-in_err-insert-clause-wanted g c = search rules steps 1000000

pub returns-clause-changed : goal.returns-clause-changed
returns-clause-changed g c = search rules steps 1000000
