use Rattle.pf_frame.specs.Own.{own_live}
use Rattle.pf_tables.specs.Owns.{Owns}
use Rattle.pf_trials.proofs.spaces.probed.Given as goal

abbrev pub invariant-loop-i : goal.invariant-loop-i
invariant-loop-i l = record { owns : Owns (own_live l.frames) l.space }
