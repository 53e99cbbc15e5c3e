-- It chains two changes where it waits: an attempt that moved nothing, and a process that parks; and the question
-- whether it may wait comes between.

use Rattle.std.proofs.Common.{rules, refl, sym, ◌∙◌}
use Rattle.pf_space.proofs.Common.{is_nonblocking_at}
use Rattle.pf_space.proofs.ParkedTransfers.{waits_first}
use Rattle.pf_space.proofs.space.Space.fill.Goals as goal

pub returns-clause-told : goal.returns-clause-told
returns-clause-told g c =
    waits_first g.F.Frames.live c.in_ok-number.ensures.read.0 c.self.view_is c.in-WouldBlock.is refl c.park.ensures
    (λ s. is_nonblocking_at s c.args.pid c.args.fd) (sym c.is_nonblocking.ensures ∙ c.if-is_nonblocking.false)

pub returns-in-Moved-clause-told : goal.returns-in-Moved-clause-told
returns-in-Moved-clause-told g c = search rules steps 1000000
