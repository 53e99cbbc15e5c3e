use Rattle.std.proofs.Common.{ℕ, List, length, map, ap, ◌∙◌, length-set}
use Rattle.pf_frame.specs.declared.frame.Frame.{Frame}
use Rattle.pf_frame.proofs.LiveLaws.{takes_as}
use Rattle.pf_frame.specs.Pages.{page_of}
use Rattle.pf_frame.proofs.own.OwnFramesFrames.take.Goals as goal

pub returns-clause-takes : goal.returns-clause-takes
returns-clause-takes c =
    takes_as _ _ _ _ _ _ _ (ap (λ (xs : List ℕ). length xs) c.take.ensures.counts ∙ length-set c.args.self.now.table.counts.items c.take.result 1) c.take.ensures.counts (ap (λ (fs : List Frame). map page_of fs) c.take.ensures.frames) c.take.ensures.within c.take.ensures.vacant
