use Rattle.std.proofs.Common.{◌≤◌, ◌-◌}
use Rattle.pf_ring.specs.Windows.{Stands}
use Rattle.pf_ring.specs.Steps.{Steps, Cut}
use Rattle.pf_ring.proofs.windows.discard.Given as goal

abbrev pub invariant-loop-done : goal.invariant-loop-done
invariant-loop-done g l = record {
  within : l.done ≤ l.number;
  stands : Stands (g.F.Frames.live l.door) l.windows.items;
  cut : Steps g.F.Frames l.fn.door l.door l.fn.windows l.windows (Cut l.done);
}

abbrev pub decreases-loop-done : goal.decreases-loop-done
decreases-loop-done g l = l.number - l.done
