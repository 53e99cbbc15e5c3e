use Rattle.std.proofs.Common.{◌≡◌, ℕ, ◌+◌, ◌-◌, ◌<◌, ◌++◌, length, List, map, take, get_or}
use Rattle.pf_service.specs.declared.event.Event.{Event}
use Rattle.pf_service.specs.Marks.{IsMarked}
use Rattle.pf_service.proofs.merge.mark_all.Given as goal

abbrev pub invariant-loop-event : goal.invariant-loop-event
invariant-loop-event l = record {
  number : length l.marks.items ≡ length l.fn.marks.items;
  marked : (done : List Event) → IsMarked l.entries l.fn.marks.items done → IsMarked l.entries l.marks.items (done ++ take l.event-index l.events);
  rises : (k : ℕ) → k + 1 < l.event-index → get_or (map (λ (e : Event). e.place) l.events) k 0 < get_or (map (λ (e : Event). e.place) l.events) (k + 1) 0;
  none : l.event-index ≡ 0 → l.least ≡ 0;
  least : 0 < l.event-index → l.least ≡ get_or (map (λ (e : Event). e.place) l.events) (l.event-index - 1) 0 + 1;
}
