use Rattle.std.proofs.Common.{sym, rules, arith}
use Rattle.pf_tables.proofs.PipesSetSize as lemmas
use Rattle.pf_tables.proofs.tables.Tables.size.Goals as goal

pub returns-in_err-end-clause-says : goal.returns-in_err-end-clause-says
returns-in_err-end-clause-says g c =
    let refused = lemmas.no_size c.self.invariant c.self.view_is _ _ (sym c.in_err-end.ensures) in
    search rules

pub returns-in_default : goal.returns-in_default
returns-in_default g c =
    let there = lemmas.pipe_there c.self.invariant c.self.view_is _ _ (sym c.in_ok-end.ensures) in
    search rules

pub returns-clause-says : goal.returns-clause-says
returns-clause-says g c =
    lemmas.tells_size c.self.invariant c.self.view_is _ _ (sym c.in_ok-end.ensures) (sym c.in-Some.ensures) _
    (omega (arith, c.slots.ensures))
