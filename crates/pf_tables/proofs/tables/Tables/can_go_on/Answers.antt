use Rattle.std.proofs.Common.{Some, ap, sym, ◌∙◌, arith}
use Rattle.pf_base.specs.declared.progress.Side.TheVariants as sides
use Rattle.pf_tables.proofs.Queries as lemmas
use Rattle.pf_tables.proofs.tables.Tables.can_go_on.Goals as goal

pub returns-in-Some-Open : goal.returns-in-Some-Open
returns-in-Some-Open g c =
    lemmas.opens_on c.self.invariant.kept c.self.view_is c.args.pid c.in-Ok.ensures
    (ap Some (sym c.in-Some-Open.field-0-is) ∙ c.in-Some-Open.ensures.value) _ c.others.ensures

pub returns-in_default-end_of : goal.returns-in_default-end_of
returns-in_default-end_of g c =
    lemmas.read_is_over c.self.invariant.kept c.self.view_is c.args.pid c.in-Ok.ensures
    (ap Some (sym c.in-Some-Read.field-0-is) ∙ c.in-Some-Read.ensures.value) c.in_default-end_of.ensures

pub returns-in_default-get : goal.returns-in_default-get
returns-in_default-get g c =
    lemmas.has_pipe c.self.invariant.kept c.self.view_is c.args.pid c.in-Ok.ensures (Some sides.Read) c.in-Some-Read.fd
    c.in-Ok-end_of.ensures c.in_default-get.ensures

pub returns-in-Some : goal.returns-in-Some
returns-in-Some g c =
    lemmas.reads_on c.self.invariant.kept c.self.view_is c.args.pid c.in-Ok.ensures
    (ap Some (sym c.in-Some-Read.field-0-is) ∙ c.in-Some-Read.ensures.value)
    c.in-Ok-end_of.ensures c.in-Some.ensures _ c.read_goes_on.ensures

pub returns-in_default-end_of-2 : goal.returns-in_default-end_of-2
returns-in_default-end_of-2 g c =
    lemmas.write_is_over c.self.invariant.kept c.self.view_is c.args.pid c.in-Ok.ensures
    (ap Some (sym c.in-Some-Write.field-0-is) ∙ c.in-Some-Write.ensures.value)
    (omega (arith, c.written.ensures.written, c.written.ensures.most)) c.in_default-end_of-2.ensures

pub returns-in_default-get-2 : goal.returns-in_default-get-2
returns-in_default-get-2 g c =
    lemmas.has_pipe c.self.invariant.kept c.self.view_is c.args.pid c.in-Ok.ensures (Some sides.Write)
    c.in-Some-Write.fd c.in-Ok-end_of-2.ensures c.in_default-get-2.ensures

pub returns-else-all-gt-MAX_WRITE : goal.returns-else-all-gt-MAX_WRITE
returns-else-all-gt-MAX_WRITE g c =
    lemmas.writes_on c.self.invariant.kept c.self.view_is c.args.pid c.in-Ok.ensures
    (ap Some (sym c.in-Some-Write.field-0-is) ∙ c.in-Some-Write.ensures.value)
    (omega (arith, c.written.ensures.written, c.written.ensures.most)) c.in-Ok-end_of-2.ensures
    c.in-Some-get.ensures _ _ c.total-all.ensures c.if-all-gt-MAX_WRITE.false
    (omega (arith, c.total.ensures, c.written.ensures.written, c.written.ensures.most)) _ c.write_goes_on.ensures

pub returns-in_default-end_of-3 : goal.returns-in_default-end_of-3
returns-in_default-end_of-3 g c =
    lemmas.source_is_over c.self.invariant.kept c.self.view_is c.args.pid c.in-Ok.ensures
    (ap Some (sym c.in-Some-Cross.field-0-is) ∙ c.in-Some-Cross.ensures.value) c.in_default-end_of-3.ensures

pub returns-in_default-end_of-4 : goal.returns-in_default-end_of-4
returns-in_default-end_of-4 g c =
    lemmas.sink_is_over c.self.invariant.kept c.self.view_is c.args.pid c.in-Ok.ensures
    (ap Some (sym c.in-Some-Cross.field-0-is) ∙ c.in-Some-Cross.ensures.value) c.in-Ok-end_of-3.ensures
    c.in_default-end_of-4.ensures

pub returns-then-from-to : goal.returns-then-from-to
returns-then-from-to g c =
    lemmas.one_pipe c.self.invariant.kept c.self.view_is c.args.pid c.in-Ok.ensures
    (ap Some (sym c.in-Some-Cross.field-0-is) ∙ c.in-Some-Cross.ensures.value) c.in-Ok-end_of-3.ensures
    c.in-Ok-end_of-4.ensures c.if-from-to.true

pub returns-in_default-get-3 : goal.returns-in_default-get-3
returns-in_default-get-3 g c =
    lemmas.has_pipe c.self.invariant.kept c.self.view_is c.args.pid c.in-Ok.ensures (Some sides.Read)
    c.in-Some-Cross.source c.in-Ok-end_of-3.ensures c.in_default-get-3.ensures

pub returns-in_default-get-4 : goal.returns-in_default-get-4
returns-in_default-get-4 g c =
    lemmas.has_pipe c.self.invariant.kept c.self.view_is c.args.pid c.in-Ok.ensures (Some sides.Write)
    c.in-Some-Cross.sink c.in-Ok-end_of-4.ensures c.in_default-get-4.ensures

pub returns-in-Some-get-3 : goal.returns-in-Some-get-3
returns-in-Some-get-3 g c =
    lemmas.crosses_on c.self.invariant.kept c.self.view_is c.args.pid c.in-Ok.ensures
    (ap Some (sym c.in-Some-Cross.field-0-is) ∙ c.in-Some-Cross.ensures.value) c.in-Ok-end_of-3.ensures
    c.in-Ok-end_of-4.ensures c.if-from-to.false c.in-Some-get-2.ensures c.in-Some-get-3.ensures _
    c.cross_goes_on.ensures
