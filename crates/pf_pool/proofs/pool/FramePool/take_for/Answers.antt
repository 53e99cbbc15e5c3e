use Rattle.std.proofs.Common.{◌<◌, List, length, map, arith, ap, refl}
use Rattle.std.proofs.lemmas.List.{get_or_read}
use Rattle.pf_frame.specs.declared.frame.Frame.{Frame}
use Rattle.pf_frame.specs.Pages.{page_of}
use Rattle.pf_pool.proofs.OwnedLaws.{has_free, taken_pool, mine_takes, rest_takes}
use Rattle.pf_pool.proofs.pool.FramePool.take_for.Goals as goal

pub take-no-requires : goal.take-no-requires
take-no-requires c = has_free _ _ _ _ c.args.ns c.args.self.now.kept (omega (arith, c.args.self.now.kept.each c.args.ns, c.requires.credit))

pub invariant_of-self : goal.invariant_of-self
invariant_of-self c =
    let exists : c.args.ns < length c.args.self.now.held.items = omega (arith, c.args.self.now.kept.same, c.requires.exists) in
    record { kept = taken_pool _ _ _ _ _ _ _ _ c.args.self.now.kept c.requires.exists c.take-no.ensures.within c.take-no.ensures.vacant c.requires.credit c.take-no.ensures.counts (get_or_read c.args.self.now.held.items c.args.ns c.index_mut-2.result.now exists c.index_mut-2.ensures.value 0) }

pub returns-clause-takes : goal.returns-clause-takes
returns-clause-takes c = mine_takes _ _ _ _ _ _ _ _ _ refl c.take-no.ensures.counts (ap (λ (fs : List Frame). map page_of fs) c.take-no.ensures.frames) c.args.self.now.kept.owned c.take-no.ensures.within c.take-no.ensures.vacant

pub returns-clause-rest : goal.returns-clause-rest
returns-clause-rest c = rest_takes _ _ _ _ _ _ _ _ _ refl c.take-no.ensures.counts (ap (λ (fs : List Frame). map page_of fs) c.take-no.ensures.frames) c.take-no.ensures.vacant
