use Rattle.std.proofs.Common.{◌≡◌, Err, false, true, length, refl, sym, ap, ◌∙◌, arith, rules}
use Rattle.std.proofs.lemmas.Bool.{le-leb, lt-leb, lt-ltb}
use Rattle.pf_base.specs.declared.fault.Fault.TheVariants.{NoMemory}
use Rattle.pf_tables.proofs.OpensOutcome.{is_ready, has_free, not_named, by_tests, not_piped, opens_well, has_pipe}
use Rattle.pf_tables.proofs.OpensOutcome.{is_few, stands-whole, opened-makes}
use Rattle.pf_tables.proofs.OpensPipe.{still-whole, keeps}
use Rattle.pf_tables.proofs.tables.Tables.open.Goals as goal

pub returns-in_err-file-clause-says : goal.returns-in_err-file-clause-says
returns-in_err-file-clause-says g c =
    let refused =
    not_named c.self.invariant c.self.view_is _ c.in_ok-process.ensures c.args.path.now c.new-access.ensures
    c.args.self.now c.in_err-file.field-0.0 (rw c.tree.ensures at c.in_err-file.ensures.told) in
    search rules

pub returns-in_err-file-clause-ready : goal.returns-in_err-file-clause-ready
returns-in_err-file-clause-ready g c =
    λ _. is_ready c.self.invariant c.self.view_is c.args.pid c.in_ok-process.ensures

pub returns-then-fd-ge-MAX_DESCRIPTORS-clause-says : goal.returns-then-fd-ge-MAX_DESCRIPTORS-clause-says
returns-then-fd-ge-MAX_DESCRIPTORS-clause-says g c =
    let refused =
    by_tests c.self.invariant c.self.view_is _ c.in_ok-process.ensures c.args.path.now c.new-access.ensures
    (rw c.tree.ensures at c.in_ok-file.ensures.told) c.lowest-fd.ensures.lowest refl
    (le-leb _ _ c.if-fd-ge-MAX_DESCRIPTORS.true) refl refl refl in
    search rules

pub returns-then-lacks_readers-clause-says : goal.returns-then-lacks_readers-clause-says
returns-then-lacks_readers-clause-says g c =
    let refused =
    by_tests c.self.invariant c.self.view_is _ c.in_ok-process.ensures c.args.path.now c.new-access.ensures
    (rw c.tree.ensures at c.in_ok-file.ensures.told) c.lowest-fd.ensures.lowest
    (sym c.get.ensures.value ∙ sym c.copied-found.ensures) (lt-leb _ _ c.if-fd-ge-MAX_DESCRIPTORS.false)
    (sym c.lacks_readers.ensures ∙ c.if-lacks_readers.true) refl refl in
    search rules

pub returns-then-drawn-clause-says : goal.returns-then-drawn-clause-says
returns-then-drawn-clause-says g c =
    let refused =
    by_tests c.self.invariant c.self.view_is _ c.in_ok-process.ensures c.args.path.now c.new-access.ensures
    (rw c.tree.ensures at c.in_ok-file.ensures.told) c.lowest-fd.ensures.lowest
    (sym c.get.ensures.value ∙ sym c.copied-found.ensures) (lt-leb _ _ c.if-fd-ge-MAX_DESCRIPTORS.false)
    (sym c.lacks_readers.ensures ∙ c.if-lacks_readers.false)
    (lt-ltb _ _ (omega (arith, c.drawn.ensures, c.if-drawn.true))) refl in
    search rules

pub returns-in_err-key-clause-says : goal.returns-in_err-key-clause-says
returns-in_err-key-clause-says g c =
    let refused =
    not_piped c.self.invariant c.self.view_is _ c.in_ok-process.ensures c.args.path.now c.new-access.ensures
    (rw c.tree.ensures at c.in_ok-file.ensures.told) c.lowest-fd.ensures.lowest
    (sym c.get.ensures.value ∙ sym c.copied-found.ensures) c.args.self.now _ _ _ c.in_err-key.field-0.0
    c.in_err-key.ensures.gets c.if-fd-ge-MAX_DESCRIPTORS.false (sym c.lacks_readers.ensures ∙ c.if-lacks_readers.false)
    (omega (arith, c.drawn.ensures, c.if-drawn.false, c.drawn.type_inv)) in
    search rules

pub returns-in_err-key-clause-ready : goal.returns-in_err-key-clause-ready
returns-in_err-key-clause-ready g c =
    λ _. is_ready c.self.invariant c.self.view_is c.args.pid c.in_ok-process.ensures

pub returns-in_err-file-clause-wanted : goal.returns-in_err-file-clause-wanted
returns-in_err-file-clause-wanted g c none plain =
    let gives : c.from_residual-in_err-file.result ≡ Err c.in_err-file.field-0.0 = search rules in
    let fault : c.in_err-file.field-0.0 ≡ NoMemory = cc (sym gives ∙ none) in
    let dots : true ≡ false = sym (c.in_err-file.ensures.wanted (ap Err fault)) ∙ plain in
    absurd (cc)

pub returns-in_err-key-clause-wanted : goal.returns-in_err-key-clause-wanted
returns-in_err-key-clause-wanted g c none plain =
    let gives : c.from_residual-in_err-key.result ≡ Err c.in_err-key.field-0.0 = search rules in
    let fault : c.in_err-key.field-0.0 ≡ NoMemory = cc (sym gives ∙ none) in
    opens_well c.self.invariant c.self.view_is _ c.in_ok-process.ensures c.args.path.now c.new-access.ensures
    (rw c.tree.ensures at c.in_ok-file.ensures.told) c.lowest-fd.ensures.lowest
    (sym c.get.ensures.value ∙ sym c.copied-found.ensures) (c.in_err-key.ensures.wanted (ap Err fault))
    c.if-fd-ge-MAX_DESCRIPTORS.false (sym c.lacks_readers.ensures ∙ c.if-lacks_readers.false)
    (omega (arith, c.drawn.ensures, c.if-drawn.false, c.drawn.type_inv))

pub invariant_of-self : goal.invariant_of-self
invariant_of-self g c =
    rw c.in_err-key.ensures.drawn (still-whole c.self.invariant c.in_ok-process.process.now c.in_ok-file.file.number
    (keeps c.self.invariant c.in_ok-process.process.now c.in_ok-file.file.number _ _ _ c.in_err-key.field-0.0
    c.copied-found.result c.in_err-key.ensures.gets))

pub value_mut-pipe-requires : goal.value_mut-pipe-requires
value_mut-pipe-requires g c = record {
  stands =
      has_pipe c.self.invariant c.self.view_is _ c.in_ok-process.ensures c.args.path.now c.new-access.ensures
      (rw c.tree.ensures at c.in_ok-file.ensures.told) c.lowest-fd.ensures.lowest
      (sym c.get.ensures.value ∙ sym c.copied-found.ensures) _ _ _ _ c.in_ok-key.ensures.gets;
}

pub count-requires : goal.count-requires
count-requires g c =
    is_few c.self.invariant c.self.view_is _ c.in_ok-process.ensures c.args.path.now c.new-access.ensures
    (rw c.tree.ensures at c.in_ok-file.ensures.told) c.lowest-fd.ensures.lowest
    (sym c.get.ensures.value ∙ sym c.copied-found.ensures) _ _ _ _ c.in_ok-key.ensures.gets
    c.value_mut-pipe.ensures.value (omega (arith, c.drawn.ensures, c.if-drawn.false, c.drawn.type_inv))

pub describe-requires-clause-spare : goal.describe-requires-clause-spare
describe-requires-clause-spare g c =
    has_free c.self.invariant c.self.view_is c.args.pid c.in_ok-process.ensures c.lowest-fd.ensures.lowest
    c.if-fd-ge-MAX_DESCRIPTORS.false

pub describe-requires-clause-unspent : goal.describe-requires-clause-unspent
describe-requires-clause-unspent g c =
    omega (arith, ap length c.in_ok-key.ensures.drawn, c.drawn.ensures, c.if-drawn.false, c.drawn.type_inv)

pub invariant_of-self-2 : goal.invariant_of-self-2
invariant_of-self-2 g c =
    rw c.count.ensures (stands-whole c.self.invariant c.self.view_is _ c.in_ok-process.ensures c.args.path.now
    c.new-access.ensures (rw c.tree.ensures at c.in_ok-file.ensures.told) c.lowest-fd.ensures.lowest
    (sym c.get.ensures.value ∙ sym c.copied-found.ensures) _ _ _ _ c.in_ok-key.ensures.gets
    c.value_mut-pipe.ensures.value
    (rw (c.in_ok-key.ensures.drawn, c.end.ensures, c.before-kept.ensures) at c.describe.ensures)
    c.if-fd-ge-MAX_DESCRIPTORS.false)

pub returns-clause-says : goal.returns-clause-says
returns-clause-says g c =
    rw c.count.ensures (opened-makes c.self.invariant c.self.view_is _ c.in_ok-process.ensures c.args.path.now
    c.new-access.ensures (rw c.tree.ensures at c.in_ok-file.ensures.told) c.lowest-fd.ensures.lowest
    (sym c.get.ensures.value ∙ sym c.copied-found.ensures) _ _ _ _ c.in_ok-key.ensures.gets
    c.value_mut-pipe.ensures.value
    (rw (c.in_ok-key.ensures.drawn, c.end.ensures, c.before-kept.ensures) at c.describe.ensures)
    c.if-fd-ge-MAX_DESCRIPTORS.false (sym c.lacks_readers.ensures ∙ c.if-lacks_readers.false)
    (omega (arith, c.drawn.ensures, c.if-drawn.false, c.drawn.type_inv)))

pub returns-then-lacks_readers-clause-wanted : goal.returns-then-lacks_readers-clause-wanted
returns-then-lacks_readers-clause-wanted g c = search rules steps 200000
