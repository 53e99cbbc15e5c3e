-- The events so far were run, and there is room for the other answers.
use Rattle.std.proofs.Common.{◌≡◌, length, take}
use Rattle.std.specs.Vec.{vec_capacity}
use Rattle.pf_hub.specs.Covered.{IsCovered}
use Rattle.pf_hub.specs.Isolation.{Ran}
use Rattle.pf_hub.proofs.hub.Hub.run.Given as goal

abbrev pub invariant-loop-event : goal.invariant-loop-event
invariant-loop-event g l = record {
  ran : Ran l.fn.self.world (take l.event-index l.events) l.answers.items l.self.world;
  made : length l.answers.items ≡ l.event-index;
  room : vec_capacity l.answers ≡ length l.events;
  allocators : l.self.allocators ≡ l.fn.self.allocators;
  covered : IsCovered l.self.world;
}
