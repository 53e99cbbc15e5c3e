use Rattle.std.proofs.Common.{ℕ, ◌<◌}
use Rattle.pf_service.specs.Judged.{Agrees}
use Rattle.pf_service.proofs.judge.compare.Given as goal

abbrev pub invariant-loop-ns : goal.invariant-loop-ns
invariant-loop-ns l = (n : ℕ) → n < l.ns → Agrees l.configs l.transcripts l.seats n
