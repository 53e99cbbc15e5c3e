use Rattle.pf_frame.specs.Own.{own_live}
use Rattle.pf_tables.specs.Owns.{Owns}
use Rattle.pf_refusals.proofs.alone.make_all.Given as goal

abbrev pub invariant-loop-place : goal.invariant-loop-place
invariant-loop-place l = record { owns : Owns (own_live l.frames) l.space }
