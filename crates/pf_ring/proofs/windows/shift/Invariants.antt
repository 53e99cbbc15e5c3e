use Rattle.std.proofs.Common.{◌≡◌, ◌++◌, ◌-◌}
use Rattle.std.specs.VecDeque.{deque_len, deque_capacity}
use Rattle.pf_machine.specs.Queue.{copied}
use Rattle.pf_ring.specs.Ring.{shown}
use Rattle.pf_ring.specs.Steps.{Steps}
use Rattle.pf_ring.proofs.WindowsShift.{Shifting}
use Rattle.pf_ring.proofs.windows.shift.Given as goal

abbrev pub invariant-loop : goal.invariant-loop
invariant-loop g l = record {
  source_space : deque_capacity l.source ≡ deque_capacity l.fn.source;
  shifting : Steps g.F.Frames l.fn.door l.door l.fn.sink l.sink (λ old new f h. Shifting f h l.fn.source.items l.source.items old new l.slots l.n l.counter l.done
      (shown f old ++ copied (l.slots - deque_len l.fn.sink) l.n (shown f l.fn.source.items)));
}
