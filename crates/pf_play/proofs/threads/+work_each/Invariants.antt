-- One worker fewer is left for the others.
use Rattle.std.proofs.Common.{length}
use Rattle.pf_play.proofs.threads.+work_each.Given as goal

abbrev pub decreases-work_each : goal.decreases-work_each
decreases-work_each g a = length a.workers.items
