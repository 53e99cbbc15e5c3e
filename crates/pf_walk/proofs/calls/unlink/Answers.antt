-- Searches that end soon where there is no proof.
use Rattle.std.proofs.Common.{rules}
use Rattle.pf_walk.proofs.calls.unlink.Goals as goal

pub returns-then-is_directory-clause-changed : goal.returns-then-is_directory-clause-changed
returns-then-is_directory-clause-changed g c = search rules steps 1000000

pub returns-then-is_directory-clause-wanted : goal.returns-then-is_directory-clause-wanted
returns-then-is_directory-clause-wanted g c = search rules steps 200000
