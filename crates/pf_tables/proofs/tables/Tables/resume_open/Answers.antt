use Rattle.std.proofs.Common.{Some, sym, ap, ◌∙◌, arith}
use Rattle.std.proofs.lemmas.Bool.{le-ltb, lt-ltb}
use Rattle.pf_tables.proofs.OpensReopen.{still_waits, comes}
use Rattle.pf_tables.proofs.tables.Tables.resume_open.Goals as goal

pub returns-then-others-kept : goal.returns-then-others-kept
returns-then-others-kept g c =
    still_waits c.self.invariant.kept.tied c.self.view_is c.args.pid c.in-Ok.ensures
    (sym (ap Some (sym c.in-Some-Open.field-0-is) ∙ c.in-Some-Open.ensures.value))
    (le-ltb _ _ (omega (arith, c.others.ensures, c.if-others-kept.true)))

pub returns : goal.returns
returns g c =
    comes c.self.invariant.kept.tied c.self.view_is c.args.pid c.in-Ok.ensures
    (sym (ap Some (sym c.in-Some-Open.field-0-is) ∙ c.in-Some-Open.ensures.value))
    (lt-ltb _ _ (omega (arith, c.others.ensures, c.if-others-kept.false))) c.lowest-fd.ensures.lowest
    c.end_wait.ensures.namespace c.end_wait.ensures.swept
