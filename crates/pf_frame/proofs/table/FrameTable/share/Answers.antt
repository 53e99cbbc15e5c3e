use Rattle.std.proofs.Common.{arith}
use Rattle.pf_frame.proofs.CountedLaws.{table_counts}
use Rattle.pf_frame.proofs.table.FrameTable.share.Goals as goal

pub invariant_of-self : goal.invariant_of-self
invariant_of-self c = record { kept = table_counts _ _ _ _ _ _ c.args.self.now.kept c.requires.is_live (omega arith) }
