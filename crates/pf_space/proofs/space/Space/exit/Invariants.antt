use Rattle.std.proofs.Common.{◌-◌}
use Rattle.pf_tables.specs.Door.{HandsOn}
use Rattle.pf_space.proofs.Closes.{Exits}
use Rattle.pf_space.proofs.space.Space.exit.Given as goal

abbrev pub invariant-loop-fd : goal.invariant-loop-fd
invariant-loop-fd g l = record {
  door : HandsOn g.F.Frames l.fn.door l.door;
  exits : Exits (g.F.Frames.live l.fn.door) l.fn.self l.fn.pid l.fd (g.F.Frames.live l.door) l.self;
}

abbrev pub decreases-loop-fd : goal.decreases-loop-fd
decreases-loop-fd g l = 256 - l.fd
