-- The frames so far are free, and each of the others has its place.
use Rattle.std.proofs.Common.{◌≡◌, ◌+◌, length}
use Rattle.pf_depot.specs.Depot.{free_of, frames_of, slack_of}
use Rattle.pf_depot.proofs.depot.Depot.unstock.Given as goal

abbrev pub invariant-loop-frame : goal.invariant-loop-frame
invariant-loop-frame l = record {
  free : free_of l.self + length l.frame-iterator.rest.items ≡ free_of l.fn.self + l.fn.stock;
  frames : frames_of l.self ≡ frames_of l.fn.self;
  slack : slack_of l.self ≡ slack_of l.fn.self;
}
