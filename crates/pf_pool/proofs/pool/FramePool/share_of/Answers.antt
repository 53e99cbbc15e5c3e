use Rattle.std.proofs.Common.{List, map, arith, ap}
use Rattle.pf_frame.specs.declared.frame.Frame.{Frame}
use Rattle.pf_frame.specs.Pages.{page_of}
use Rattle.pf_pool.proofs.OwnedLaws.{count_is, counted, owner_is, mine_shares, rest_counts, shared_pool}
use Rattle.pf_pool.proofs.pool.FramePool.share_of.Goals as goal

pub share-requires-clause-is_live : goal.share-requires-clause-is_live
share-requires-clause-is_live c = counted _ _ _ _ c.args.self.now.kept.owned c.requires.is_live

pub share-requires-clause-few : goal.share-requires-clause-few
share-requires-clause-few c = omega (arith, c.requires.few, count_is _ _ _ _ c.args.self.now.kept.owned (owner_is _ _ _ _ c.args.self.now.kept.owned c.requires.is_live))

pub invariant_of-self : goal.invariant_of-self
invariant_of-self c = record { kept = shared_pool _ _ _ _ _ _ _ c.args.self.now.kept c.requires.is_live c.share.ensures.counts }

pub returns-clause-shares : goal.returns-clause-shares
returns-clause-shares c = mine_shares _ _ _ _ _ _ _ _ c.share.ensures.counts (ap (λ (fs : List Frame). map page_of fs) c.share.ensures.frames) c.args.self.now.kept.owned c.requires.is_live

pub returns-clause-rest : goal.returns-clause-rest
returns-clause-rest c = rest_counts _ _ _ _ _ _ _ _ _ c.share.ensures.counts (ap (λ (fs : List Frame). map page_of fs) c.share.ensures.frames) c.args.self.now.kept.owned c.requires.is_live
