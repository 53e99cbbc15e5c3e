-- Both have their reservations, and what is free and what they hold are all frames.
use Rattle.std.proofs.Common.{◌≡◌, ◌+◌}
use Rattle.pf_depot.specs.AllLoans.{held_of, reserved_of}
use Rattle.pf_depot.specs.Depot.{free_of, frames_of}
use Rattle.pf_depot_trials.proofs.own.frames_pass_between_tenants.Given as goal

abbrev pub invariant-loop-round : goal.invariant-loop-round
invariant-loop-round g l = record {
  first : reserved_of l.first ≡ 2;
  second : reserved_of l.second ≡ 2;
  frames : frames_of l.depot ≡ 4;
  all : free_of l.depot + held_of l.first + held_of l.second ≡ 4;
}
