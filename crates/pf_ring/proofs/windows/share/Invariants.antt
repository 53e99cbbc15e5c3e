use Rattle.std.proofs.Common.{◌++◌, ◌-◌}
use Rattle.std.specs.VecDeque.{deque_len}
use Rattle.pf_machine.specs.Queue.{copied}
use Rattle.pf_ring.specs.Ring.{shown}
use Rattle.pf_ring.specs.Steps.{Steps}
use Rattle.pf_ring.proofs.WindowsShare.{Sharing}
use Rattle.pf_ring.proofs.windows.share.Given as goal

abbrev pub invariant-loop-place : goal.invariant-loop-place
invariant-loop-place g l = record {
  sharing : Steps g.F.Frames l.fn.door l.door l.fn.sink l.sink (λ old new f h. Sharing f h l.source.items old new l.slots l.n l.place l.done
      (shown f old ++ copied (l.slots - deque_len l.fn.sink) l.n (shown f l.source.items)));
}
