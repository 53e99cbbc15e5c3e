use Rattle.std.proofs.Common.{Err, ◌≡◌, sym, ◌∙◌, rules}
use Rattle.pf_tables.proofs.PipesSetSize as lemmas
use Rattle.pf_tables.proofs.tables.Tables.set_size.Goals as goal

pub returns-in_err-end-clause-says : goal.returns-in_err-end-clause-says
returns-in_err-end-clause-says g c =
    let refused = lemmas.not_sized c.self.invariant c.self.view_is _ _ c.args.bytes (sym c.in_err-end.ensures) in
    search rules

pub returns-then-bytes-gt-MAX_SIZE-clause-says : goal.returns-then-bytes-gt-MAX_SIZE-clause-says
returns-then-bytes-gt-MAX_SIZE-clause-says g c =
    let pipe = lemmas.stands c.self.invariant c.self.view_is _ _ (sym c.in_ok-end.ensures) in
    let refused =
    lemmas.too_long c.self.invariant c.self.view_is _ _ (sym c.in_ok-end.ensures) pipe.1 c.in_ok-ready.ensures
    c.args.bytes c.if-bytes-gt-MAX_SIZE.true in
    search rules

pub value_mut-pipe-requires : goal.value_mut-pipe-requires
value_mut-pipe-requires g c = record {
  stands = lemmas.pipe_there c.self.invariant c.self.view_is _ _ (sym c.in_ok-end.ensures);
}

pub returns-then-is_too_large-clause-says : goal.returns-then-is_too_large-clause-says
returns-then-is_too_large-clause-says g c =
    let pipe = lemmas.stands c.self.invariant c.self.view_is _ _ (sym c.in_ok-end.ensures) in
    let refused =
    lemmas.too_large c.self.invariant c.self.view_is _ _ (sym c.in_ok-end.ensures) pipe.1 c.in_ok-ready.ensures
    c.args.bytes c.if-bytes-gt-MAX_SIZE.false c.is_privileged-privileged.ensures c.pages_for-slots.ensures.number
    c.config.ensures c.is_too_large.ensures c.if-is_too_large.true in
    search rules

pub resize-requires : goal.resize-requires
resize-requires g c = record {
  covered =
      lemmas.covered c.self.invariant c.self.view_is _ _ (sym c.in_ok-end.ensures) c.value_mut-pipe.ensures.value;
}

pub invariant_of-self : goal.invariant_of-self
invariant_of-self g c =
    lemmas.same-whole c.self.invariant c.self.view_is _ _ (sym c.in_ok-end.ensures) c.value_mut-pipe.ensures.value _ _
    (lemmas.refuses _ _ _ _ _ _ _ c.in_err-resize.ensures)

pub returns-in_err-resize-clause-refused : goal.returns-in_err-resize-clause-refused
returns-in_err-resize-clause-refused g c =
    let same =
    lemmas.same_view c.self.invariant c.self.view_is _ _ (sym c.in_ok-end.ensures) c.value_mut-pipe.ensures.value _ _
    (lemmas.refuses _ _ _ _ _ _ _ c.in_err-resize.ensures) in
    search rules

pub invariant_of-self-2 : goal.invariant_of-self-2
invariant_of-self-2 g c =
    lemmas.resized-whole c.self.invariant c.self.view_is _ _ (sym c.in_ok-end.ensures)
    c.value_mut-pipe.ensures.value _ _ c.in_ok-resize.ensures

pub returns-clause-says : goal.returns-clause-says
returns-clause-says g c =
    lemmas.resized c.self.invariant c.self.view_is _ _ (sym c.in_ok-end.ensures) c.value_mut-pipe.ensures.value
    c.in_ok-ready.ensures c.args.bytes c.if-bytes-gt-MAX_SIZE.false c.is_privileged-privileged.ensures
    c.pages_for-slots.ensures.number c.config.ensures c.is_too_large.ensures c.if-is_too_large.false _ _
    c.in_ok-resize.ensures

pub returns-in_err-resize-clause-says : goal.returns-in_err-resize-clause-says
returns-in_err-resize-clause-says g c =
    let gives : c.from_residual-in_err-resize.result ≡ Err c.in_err-resize.field-0.0 = search rules in
    rw gives
    (lemmas.told c.self.invariant c.self.view_is c.args.pid c.args.fd (sym c.in_ok-end.ensures)
    c.value_mut-pipe.ensures.value c.in_ok-ready.ensures c.args.bytes c.if-bytes-gt-MAX_SIZE.false
    c.is_privileged-privileged.ensures c.pages_for-slots.ensures.number c.config.ensures c.is_too_large.ensures
    c.if-is_too_large.false c.args.self.now _ _ _ c.in_err-resize.ensures).0

pub returns-in_err-resize-clause-wanted : goal.returns-in_err-resize-clause-wanted
returns-in_err-resize-clause-wanted g c none =
    let gives : c.from_residual-in_err-resize.result ≡ Err c.in_err-resize.field-0.0 = search rules in
    (lemmas.told c.self.invariant c.self.view_is c.args.pid c.args.fd (sym c.in_ok-end.ensures)
    c.value_mut-pipe.ensures.value c.in_ok-ready.ensures c.args.bytes c.if-bytes-gt-MAX_SIZE.false
    c.is_privileged-privileged.ensures c.pages_for-slots.ensures.number c.config.ensures c.is_too_large.ensures
    c.if-is_too_large.false c.args.self.now _ _ _ c.in_err-resize.ensures).1 (cc (sym gives ∙ none))
