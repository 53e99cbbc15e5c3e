use Rattle.std.proofs.Common.{ℕ, List, length, map, ap, ◌∙◌, length-set}
use Rattle.pf_frame.specs.declared.frame.Frame.{Frame}
use Rattle.pf_frame.proofs.LiveLaws.{shares_as}
use Rattle.pf_frame.specs.Pages.{page_of}
use Rattle.pf_frame.proofs.own.OwnFramesFrames.share.Goals as goal

pub returns-clause-shares : goal.returns-clause-shares
returns-clause-shares c =
    shares_as _ _ _ _ _ _ _ (ap (λ (xs : List ℕ). length xs) c.share.ensures.counts ∙ length-set c.args.self.now.table.counts.items c.args.no _) c.share.ensures.counts (ap (λ (fs : List Frame). map page_of fs) c.share.ensures.frames) c.requires.is_live
