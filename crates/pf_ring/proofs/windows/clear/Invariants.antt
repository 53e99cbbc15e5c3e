use Rattle.std.specs.VecDeque.{deque_len}
use Rattle.pf_ring.specs.Windows.{Stands, Drops}
use Rattle.pf_ring.specs.Steps.{Steps}
use Rattle.pf_ring.proofs.windows.clear.Given as goal

abbrev pub invariant-loop-windows : goal.invariant-loop-windows
invariant-loop-windows g l = record {
  stands : Stands (g.F.Frames.live l.door) l.windows.items;
  drops : Steps g.F.Frames l.fn.door l.door l.fn.windows l.windows Drops;
}

abbrev pub decreases-loop-windows : goal.decreases-loop-windows
decreases-loop-windows g l = deque_len l.windows
