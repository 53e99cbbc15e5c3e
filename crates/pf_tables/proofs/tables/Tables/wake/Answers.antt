-- The call that was given out is a transfer's, since the process waits in no open.

use Rattle.std.proofs.Common.{Ok, sym, ap, ◌∙◌}
use Rattle.pf_tables.proofs.Parked.{given_out}
use Rattle.pf_tables.proofs.tables.Tables.wake.Goals as goal

pub returns : goal.returns
returns g c =
    given_out c.args.pid c.end_wait.result c.end_wait.ensures.call
    (sym c.in_ok-waits_in_open.ensures ∙ ap Ok c.if-branch.false) c.end_wait.ensures.namespace c.settled.ensures
    c.end_wait.ensures.swept
