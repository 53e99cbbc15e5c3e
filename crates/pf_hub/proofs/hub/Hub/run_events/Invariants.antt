-- The events so far happened, and there is room for the other answers.
use Rattle.std.proofs.Common.{◌≡◌, ◌++◌, length}
use Rattle.std.specs.Vec.{vec_capacity}
use Rattle.pf_hub.proofs.EventLemmas.{Ongoing}
use Rattle.pf_hub.proofs.hub.Hub.run_events.Given as goal

abbrev pub invariant-loop-event : goal.invariant-loop-event
invariant-loop-event g l = record {
  ongoing : Ongoing l.fn.self l.yielded l.answers.items l.self;
  made : length l.answers.items ≡ length l.yielded;
  all : l.yielded ++ l.event-iterator.rest.items ≡ l.fn.events.items;
  room : vec_capacity l.answers ≡ length l.fn.events.items;
}
