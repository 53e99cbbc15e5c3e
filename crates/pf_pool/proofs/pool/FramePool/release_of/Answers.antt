use Rattle.std.proofs.Common.{◌<◌, List, length, map, arith, ap, sym, ◌∙◌}
use Rattle.std.proofs.lemmas.List.{get_or_read}
use Rattle.pf_frame.specs.declared.frame.Frame.{Frame}
use Rattle.pf_frame.specs.Pages.{page_of}
use Rattle.pf_pool.proofs.OwnedLaws.{counted, held_some, mine_releases, rest_counts, released_last, released_more}
use Rattle.pf_pool.proofs.pool.FramePool.release_of.Goals as goal

pub release-requires : goal.release-requires
release-requires c = counted _ _ _ _ c.args.self.now.kept.owned c.requires.is_live

pub overflow_sub-index_mut : goal.overflow_sub-index_mut
overflow_sub-index_mut c =
    let exists : c.args.ns < length c.args.self.now.held.items = omega (arith, c.args.self.now.kept.same, c.requires.exists) in
    omega (arith, held_some _ _ _ _ _ _ c.args.self.now.kept c.requires.is_live, get_or_read c.args.self.now.held.items c.args.ns c.index_mut.result.now exists c.index_mut.ensures.value 0)

pub invariant_of-self : goal.invariant_of-self
invariant_of-self c =
    let exists : c.args.ns < length c.args.self.now.held.items = omega (arith, c.args.self.now.kept.same, c.requires.exists) in
    record { kept = released_last _ _ _ _ _ _ _ _ c.args.self.now.kept c.requires.exists c.requires.is_live c.release.ensures.counts (sym c.count.ensures ∙ c.if-count-eq0.true) (get_or_read c.args.self.now.held.items c.args.ns c.index_mut.result.now exists c.index_mut.ensures.value 0) }

pub invariant_of-self-else-count-eq0 : goal.invariant_of-self-else-count-eq0
invariant_of-self-else-count-eq0 c = record { kept = released_more _ _ _ _ _ _ _ c.args.self.now.kept c.requires.is_live c.release.ensures.counts (λ e. c.if-count-eq0.false (c.count.ensures ∙ e)) }

pub returns-then-count-eq0-clause-releases : goal.returns-then-count-eq0-clause-releases
returns-then-count-eq0-clause-releases c = mine_releases _ _ _ _ _ _ _ _ c.release.ensures.counts (ap (λ (fs : List Frame). map page_of fs) c.release.ensures.frames) c.args.self.now.kept.owned c.requires.is_live

pub returns-then-count-eq0-clause-rest : goal.returns-then-count-eq0-clause-rest
returns-then-count-eq0-clause-rest c = rest_counts _ _ _ _ _ _ _ _ _ c.release.ensures.counts (ap (λ (fs : List Frame). map page_of fs) c.release.ensures.frames) c.args.self.now.kept.owned c.requires.is_live

pub returns-else-count-eq0-clause-releases : goal.returns-else-count-eq0-clause-releases
returns-else-count-eq0-clause-releases c = mine_releases _ _ _ _ _ _ _ _ c.release.ensures.counts (ap (λ (fs : List Frame). map page_of fs) c.release.ensures.frames) c.args.self.now.kept.owned c.requires.is_live

pub returns-else-count-eq0-clause-rest : goal.returns-else-count-eq0-clause-rest
returns-else-count-eq0-clause-rest c = rest_counts _ _ _ _ _ _ _ _ _ c.release.ensures.counts (ap (λ (fs : List Frame). map page_of fs) c.release.ensures.frames) c.args.self.now.kept.owned c.requires.is_live
