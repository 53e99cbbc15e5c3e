use Rattle.std.proofs.Common.{sym, ◌∙◌}
use Rattle.pf_tables.proofs.TransfersWhole as lemmas
use Rattle.pf_tables.proofs.tables.Tables.is_nonblocking.Goals as goal

pub returns-in-Ok : goal.returns-in-Ok
returns-in-Ok g c =
    lemmas.flag_told c.self.invariant.kept.tied c.self.view_is c.args.pid c.args.fd _ (sym c.end.ensures ∙ c.in-Ok.is)

pub returns-in-Err : goal.returns-in-Err
returns-in-Err g c =
    lemmas.no_flag c.self.invariant.kept.tied c.self.view_is c.args.pid c.args.fd _ (sym c.end.ensures ∙ c.in-Err.is)
