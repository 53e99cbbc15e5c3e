use Rattle.std.proofs.Common.{rules, sym, ◌∙◌}
use Rattle.pf_tables.proofs.Bounds as lemmas
use Rattle.pf_tables.proofs.tables.Tables.read_bound.Goals as goal

pub returns-in_default-clause-covers : goal.returns-in_default-clause-covers
returns-in_default-clause-covers g c =
    lemmas.no_read c.self.invariant.kept c.self.view_is c.args.pid c.args.fd c.args.n
    (λ d h. c.in_default.not-Ok d (c.reading_end.ensures ∙ h))

pub returns-in_default-get-clause-covers : goal.returns-in_default-get-clause-covers
returns-in_default-get-clause-covers g c =
    lemmas.no_pipe c.self.invariant.kept c.self.view_is c.args.pid c.args.fd c.args.n c.in-Ok.end
    (sym c.in-Ok.ensures) (sym c.in_default-get.ensures)

pub returns-clause-covers : goal.returns-clause-covers
returns-clause-covers g c =
    rw c.min.ensures
    (lemmas.reads c.self.invariant.kept c.self.view_is c.args.pid c.args.fd c.args.n c.in-Ok.end
    (sym c.in-Ok.ensures) c.in-Some.pipe.now (sym c.in-Some.ensures) _ c.len.ensures.bytes)

pub returns-clause-most : goal.returns-clause-most
returns-clause-most g c = search rules steps 200000
