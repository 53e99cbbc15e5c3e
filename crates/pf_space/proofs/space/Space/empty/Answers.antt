use Rattle.std.proofs.Common.{ap}
use Rattle.pf_space.proofs.Closes.{gone_stands, cleared}
use Rattle.pf_space.proofs.space.Space.empty.Goals as goal

pub clear-requires-clause-stands : goal.clear-requires-clause-stands
clear-requires-clause-stands g c =
    gone_stands (rw (← c.self.view_is) at c.requires.door.owns) _ c.empty-gone.ensures.leaves

pub returns-clause-emptied : goal.returns-clause-emptied
returns-clause-emptied g c =
    rw (← c.self.view_is) (cleared (rw (← c.self.view_is) at c.requires.door.owns) _ c.empty-gone.ensures.leaves
    c.clear.ensures.keeps (λ none. ap g.F.Frames.live (c.clear.ensures.none none)))
