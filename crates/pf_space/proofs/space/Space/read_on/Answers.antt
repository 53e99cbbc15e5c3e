-- It chains two changes where it waits: an attempt that moved nothing, and a process that parks; and the question
-- whether it may wait comes between.

use Rattle.std.proofs.Common.{not, ◌&&◌, refl, sym, ap, ◌∙◌}
use Rattle.pf_space.proofs.Common.{is_nonblocking_at}
use Rattle.pf_space.proofs.ParkedTransfers.{waits_first, not_asked, nothing_asked}
use Rattle.pf_space.proofs.space.Space.read_on.Goals as goal
use Rattle.pf_space.proofs.space.Space.read_on.Goals.{else-not-again-via-then-not-again+else-is_nonblocking}
use Rattle.pf_space.proofs.space.Space.read_on.Goals.{else-not-again-via-else-not-again}

pub returns-clause-told : goal.returns-clause-told
returns-clause-told g c =
    waits_first g.F.Frames.live c.in_ok-taken.ensures.read c.self.view_is c.in-WouldBlock.is refl c.park.ensures
    (λ s. not c.args.again && is_nonblocking_at s c.args.pid c.args.fd)
    (elim c.else-not-again.branch [
      | else-not-again-via-then-not-again+else-is_nonblocking w ↦
          not_asked (not c.args.again) (sym w.is_nonblocking.ensures ∙ w.if-is_nonblocking.false)
      | else-not-again-via-else-not-again w ↦ nothing_asked _ (ap not w.if-not-again.false)
    ])
