use Rattle.std.proofs.Common.{ap, rules}
use Rattle.pf_machine.proofs.NaturalCalls.{close-call}
use Rattle.pf_machine.specs.State.{itself}
use Rattle.pf_base.specs.declared.step.Step.TheVariants.{Close}
use Rattle.pf_space.proofs.Books.{booked_not}
use Rattle.pf_space.proofs.Closes.{gone_stands, closed}
use Rattle.pf_space.proofs.space.Space.close.Goals as goal

pub returns-in_err-gone-clause-told : goal.returns-in_err-gone-clause-told
returns-in_err-gone-clause-told g c =
    let refused =
    booked_not c.self.view_is c.requires.door.owns (Close c.args.pid c.args.fd)
    (λ shows. close-call shows itself c.self.inside.tables.limits c.self.inside.tables.state c.args.pid c.args.fd)
    c.in_err-gone.ensures.closes c.in_err-gone.ensures.refused in
    search rules

pub clear-requires-clause-stands : goal.clear-requires-clause-stands
clear-requires-clause-stands g c =
    gone_stands (rw (← c.self.view_is) at c.requires.door.owns) _ c.in_ok-gone.ensures.closes.2

pub returns-clause-told : goal.returns-clause-told
returns-clause-told g c =
    closed c.self.view_is c.requires.door.owns _ c.args.pid c.args.fd c.in_ok-gone.ensures.closes c.clear.ensures.keeps
    (λ none. ap g.F.Frames.live (c.clear.ensures.none none))
