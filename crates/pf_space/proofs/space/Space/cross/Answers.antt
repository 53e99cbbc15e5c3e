-- It chains two changes where it waits: an attempt that moved nothing, and a process that parks; and it asks two
-- descriptions whether it may wait.

use Rattle.std.proofs.Common.{not, ◌&&◌, ◌||◌, refl, sym, ◌∙◌, rules}
use Rattle.pf_space.proofs.Common.{Bringing, is_nonblocking_at}
use Rattle.pf_space.proofs.ParkedTransfers.{waits_first, refuses}
use Rattle.pf_space.proofs.space.Space.cross.Goals as goal

pub returns-in_err-number-clause-told : goal.returns-in_err-number-clause-told
returns-in_err-number-clause-told g c =
    let told =
    refuses g.F.Frames.live c.args.pid (Bringing c.args.crossing c.args.source c.args.sink c.args.n)
    c.in_err-number.ensures.crossed c.self.view_is c.requires.door.owns (not c.args.again && (c.args.flag
    || (is_nonblocking_at c.args.self.now.state c.args.pid c.args.source
    || is_nonblocking_at c.args.self.now.state c.args.pid c.args.sink))) in
    search rules

pub returns-clause-told : goal.returns-clause-told
returns-clause-told g c =
    waits_first g.F.Frames.live c.in_ok-number.ensures.crossed c.self.view_is c.in-WouldBlock.is refl c.park.ensures
    (λ s. not c.args.again && (c.args.flag
    || (is_nonblocking_at s c.args.pid c.args.source || is_nonblocking_at s c.args.pid c.args.sink)))
    (sym c.mustnt_wait.ensures ∙ c.if-mustnt_wait.false)

pub returns-in-EndOfFile-clause-told : goal.returns-in-EndOfFile-clause-told
returns-in-EndOfFile-clause-told g c = search rules steps 1000000
