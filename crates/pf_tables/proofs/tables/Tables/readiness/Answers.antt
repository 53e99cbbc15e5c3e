use Rattle.std.proofs.Common.{sym, rules}
use Rattle.pf_tables.proofs.Queries as lemmas
use Rattle.pf_tables.proofs.tables.Tables.readiness.Goals as goal

pub returns-in_err-end : goal.returns-in_err-end
returns-in_err-end g c f sound owns =
    let refused =
    lemmas.ready_refused c.self.invariant.kept c.self.view_is c.args.pid c.args.fd (sym c.in_err-end.ensures) f in
    search rules

pub returns-in_default : goal.returns-in_default
returns-in_default g c f sound owns =
    sym (lemmas.ready_has_pipe c.self.invariant.kept c.self.view_is c.args.pid c.args.fd (sym c.in_ok-end.ensures)
    c.in_default.ensures f)

pub returns : goal.returns
returns g c =
    lemmas.ready_is c.self.invariant.kept c.self.view_is c.args.pid c.args.fd (sym c.in_ok-end.ensures)
    c.in-Some.ensures _ _ _ _ c.len.ensures.bytes c.room.ensures c.readers.ensures c.writers.ensures
