use Rattle.std.proofs.lemmas.Grind.{common_steps}
use Rattle.std.proofs.Common.{arith}
use Rattle.pf_frame.proofs.CountedLaws.{table_releases_last, table_counts, table_room}
use Rattle.pf_frame.proofs.table.FrameTable.release.Goals as goal

pub push_reserved-requires : goal.push_reserved-requires
push_reserved-requires c = omega (arith, table_room _ _ _ _ _ c.args.self.now.kept c.requires)

pub invariant_of-self : goal.invariant_of-self
invariant_of-self c = record { kept = table_releases_last _ _ _ _ _ _ _ _ c.if-count-eq0.true c.push_reserved.ensures.items c.push_reserved.ensures.capacity c.args.self.now.kept c.requires }

pub invariant_of-self-else-count-eq0 : goal.invariant_of-self-else-count-eq0
invariant_of-self-else-count-eq0 c = record { kept = table_counts _ _ _ _ _ _ c.args.self.now.kept c.requires (omega arith) }

pub returns-else-count-eq0-clause-counts : goal.returns-else-count-eq0-clause-counts
returns-else-count-eq0-clause-counts c = grind (arith, common_steps)
