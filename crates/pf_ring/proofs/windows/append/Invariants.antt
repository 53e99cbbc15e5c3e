use Rattle.std.proofs.Common.{◌≡◌, ◌-◌, ◌++◌, drop}
use Rattle.std.specs.VecDeque.{deque_len}
use Rattle.pf_machine.specs.Queue.{last_room, topped_up, pieces}
use Rattle.pf_ring.specs.Ring.{shown}
use Rattle.pf_ring.specs.Steps.{Steps}
use Rattle.pf_ring.proofs.Loops.{Appending}
use Rattle.pf_ring.proofs.windows.append.Given as goal

abbrev pub invariant-loop : goal.invariant-loop
invariant-loop g l = record {
  number : deque_len l.windows ≡ l.counter;
  appending : Steps g.F.Frames l.fn.door l.door l.fn.windows l.windows (λ old new f h. Appending f h old new l.slots l.counter
      (topped_up (shown (g.F.Frames.live l.fn.door) l.fn.windows.items) l.bytes ++ pieces (l.slots - deque_len l.fn.windows) (drop (last_room (shown (g.F.Frames.live l.fn.door) l.fn.windows.items)) l.bytes))
      l.bytes l.rest);
}
