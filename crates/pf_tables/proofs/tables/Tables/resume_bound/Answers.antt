use Rattle.std.proofs.Common.{Some, sym, ap, ◌∙◌, arith}
use Rattle.pf_tables.proofs.Common.{Limits, Namespace}
use Rattle.pf_tables.proofs.Bounds as lemmas
use Rattle.pf_tables.proofs.Parked.{call-shown}
use Rattle.pf_tables.proofs.tables.Tables.resume_bound.Goals as goal

pub returns-in-Some-Read-clause-covers : goal.returns-in-Some-Read-clause-covers
returns-in-Some-Read-clause-covers g c =
    rw c.min.ensures
    (lemmas.resumes c.args.self.now (omega (
      arith,
      c.reserve-most.ensures.most,
      c.reserve-most.ensures.value,
      ap (λ (l : Limits). l.reserve) c.config.ensures,
      ap (λ (n : Namespace). n.limits.reserve) c.self.view_is,
    ))
    c.args.pid _
    (call-shown _ _ _ c.self.view_is c.args.pid (ap Some (sym c.in-Some-Read.field-0-is) ∙ c.in-Some-Read.ensures)))
