use Rattle.std.proofs.Common.{refl, sym, ◌∙◌, slice_index}
use Rattle.pf_pool.proofs.OwnedLaws.{count_is, owner_is}
use Rattle.pf_pool.proofs.pool.FramePool.count.Goals as goal

pub returns-clause-live : goal.returns-clause-live
returns-clause-live c = λ ns some. c.count.ensures ∙ sym (count_is ns _ _ _ c.args.self.now.kept.owned (owner_is ns _ _ _ c.args.self.now.kept.owned some))

pub returns-clause-idle : goal.returns-clause-idle
returns-clause-idle c = λ none. c.count.ensures ∙ sym (count_is (slice_index c.args.self.now.owners.items c.args.no) _ _ _ c.args.self.now.kept.owned refl) ∙ none _
