-- All frames are free, and none is reserved.
use Rattle.std.proofs.Common.{◌≡◌}
use Rattle.pf_depot.specs.Depot.{free_of, frames_of, slack_of}
use Rattle.pf_depot_trials.proofs.passing.a_thousand_come_and_go.Given as goal

abbrev pub invariant-loop-round : goal.invariant-loop-round
invariant-loop-round g l = record {
  free : free_of l.depot ≡ 3;
  frames : frames_of l.depot ≡ 3;
  slack : slack_of l.depot ≡ 3;
}
