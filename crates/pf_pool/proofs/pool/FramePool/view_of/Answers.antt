use Rattle.pf_frame.specs.Sound.{counted_within}
use Rattle.pf_pool.proofs.OwnedLaws.{counted}
use Rattle.pf_pool.proofs.pool.FramePool.view_of.Goals as goal

pub view-requires-clause-exists : goal.view-requires-clause-exists
view-requires-clause-exists c = counted_within _ _ (counted _ _ _ _ c.args.self.now.kept.owned c.requires.is_live)
