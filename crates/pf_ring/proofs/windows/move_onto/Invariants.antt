use Rattle.std.proofs.Common.{◌≤◌, ◌-◌, take}
use Rattle.pf_machine.specs.Queue.{joined}
use Rattle.pf_ring.specs.Receive.{Receives}
use Rattle.pf_ring.specs.Ring.{shown}
use Rattle.pf_ring.specs.Windows.{Stands}
use Rattle.pf_ring.specs.Steps.{Steps, Cut}
use Rattle.pf_ring.proofs.windows.move_onto.Given as goal

abbrev pub invariant-loop-done : goal.invariant-loop-done
invariant-loop-done g l = record {
  within : l.done ≤ l.number;
  stands : Stands (g.F.Frames.live l.door) l.windows.items;
  cut : Steps g.F.Frames l.fn.door l.door l.fn.windows l.windows (Cut l.done);
  received : Receives g.O.Receive l.fn.out l.out 0 l.done
      (take l.done (joined (shown (g.F.Frames.live l.fn.door) l.fn.windows.items)));
}

abbrev pub decreases-loop-done : goal.decreases-loop-done
decreases-loop-done g l = l.number - l.done
