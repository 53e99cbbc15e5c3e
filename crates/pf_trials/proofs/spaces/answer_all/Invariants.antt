use Rattle.pf_frame.specs.Own.{own_live}
use Rattle.pf_tables.specs.Owns.{Owns}
use Rattle.pf_trials.proofs.spaces.answer_all.Given as goal

abbrev pub invariant-loop-line : goal.invariant-loop-line
invariant-loop-line g l = record { owns : Owns (own_live l.frames) l.space }
