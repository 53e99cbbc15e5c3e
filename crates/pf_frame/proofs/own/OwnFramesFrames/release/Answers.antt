use Rattle.std.proofs.Common.{ℕ, List, length, map, ap, ◌∙◌, length-set}
use Rattle.pf_frame.specs.declared.frame.Frame.{Frame}
use Rattle.pf_frame.proofs.LiveLaws.{releases_as}
use Rattle.pf_frame.specs.Pages.{page_of}
use Rattle.pf_frame.proofs.own.OwnFramesFrames.release.Goals as goal

pub returns-clause-releases : goal.returns-clause-releases
returns-clause-releases c =
    releases_as _ _ _ _ _ _ _ (ap (λ (xs : List ℕ). length xs) c.release.ensures.counts ∙ length-set c.args.self.now.table.counts.items c.args.no _) c.release.ensures.counts (ap (λ (fs : List Frame). map page_of fs) c.release.ensures.frames) c.requires.is_live
