-- The name's lines so far have their answers, and there is room for the others.
use Rattle.std.proofs.Common.{◌≤◌, length, take, drop}
use Rattle.std.specs.Vec.{vec_capacity}
use Rattle.pf_hub.specs.Tenants.{house_of}
use Rattle.pf_play.specs.Trees.{AreTheirs}
use Rattle.pf_script.specs.Places.{lines_of}
use Rattle.pf_play.proofs.AloneLaws.{RunningAlone}
use Rattle.pf_play.proofs.engine.play_lines_alone.Given as goal

abbrev pub invariant-loop-event : goal.invariant-loop-event
invariant-loop-event g l = record {
  running : RunningAlone l.script l.ns (take l.event-index l.lines) (drop l.event-index l.lines) l.numbers.items
      (house_of l.hub.world) l.answers.items;
  names : 1 ≤ vec_capacity l.numbers;
  room : length (lines_of l.script.steps l.ns) ≤ vec_capacity l.answers;
  theirs : AreTheirs l.trees l.numbers.items l.hub;
}
