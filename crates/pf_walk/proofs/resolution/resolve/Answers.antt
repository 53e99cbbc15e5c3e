-- Searches that end soon where there is no proof.
use Rattle.std.proofs.Common.{rules}
use Rattle.pf_walk.proofs.resolution.resolve.Goals as goal

pub returns-in_err-words-in-Target-clause-told : goal.returns-in_err-words-in-Target-clause-told
returns-in_err-words-in-Target-clause-told g c = search rules steps 200000

pub returns-in_err-words-in-Target-clause-wanted : goal.returns-in_err-words-in-Target-clause-wanted
returns-in_err-words-in-Target-clause-wanted g c = search rules steps 200000

pub returns-in_err-path-in-Target-clause-wanted : goal.returns-in_err-path-in-Target-clause-wanted
returns-in_err-path-in-Target-clause-wanted g c = search rules steps 200000

pub returns-in_ok-path-in-Target-clause-told : goal.returns-in_ok-path-in-Target-clause-told
returns-in_ok-path-in-Target-clause-told g c = search rules steps 200000

pub returns-in_err-path-in-Target-clause-told : goal.returns-in_err-path-in-Target-clause-told
returns-in_err-path-in-Target-clause-told g c = search rules steps 1000000
