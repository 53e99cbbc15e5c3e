use Rattle.std.proofs.Common.{◌≡◌, ◌+◌, Ok, Err, sym, ap, ◌∙◌, arith, rules}
use Rattle.pf_base.specs.declared.fault.Fault.TheVariants.{NoMemory}
use Rattle.pf_machine.specs.Files.{make}
use Rattle.pf_tables.proofs.Files.{changed, changed_not, changes_well}
use Rattle.pf_tables.proofs.tables.Tables.make_file.Goals as goal

pub overflow_add-self : goal.overflow_add-self
overflow_add-self g c = let next = c.in_ok-make.ensures.numbered in omega arith

pub returns-in_err-make-clause-says : goal.returns-in_err-make-clause-says
returns-in_err-make-clause-says g c =
    let gives : c.from_residual-in_err-make.result ≡ Err c.in_err-make.field-0.0 = search rules in
    rw gives (changed_not c.self.invariant.kept.tied c.self.view_is _ c.in_ok-cred.ensures
    (c.self.inside.files_made + 1) (λ t q. make c.args.kind t q c.args.path.now c.args.bits) _
    (rw (← c.in_ok-mode.ensures)) _ c.args.self.now c.in_err-make.field-0.0 c.in_err-make.ensures.changed)

pub returns-clause-says : goal.returns-clause-says
returns-clause-says g c =
    changed c.self.invariant.kept.tied c.self.view_is _ c.in_ok-cred.ensures (c.self.inside.files_made + 1)
    (λ t q. make c.args.kind t q c.args.path.now c.args.bits) _ (rw (← c.in_ok-mode.ensures)) _ (Ok tt)
    c.in_ok-make.ensures.changed

pub returns-in_err-make-clause-wanted : goal.returns-in_err-make-clause-wanted
returns-in_err-make-clause-wanted g c none plain =
    let gives : c.from_residual-in_err-make.result ≡ Err c.in_err-make.field-0.0 = search rules in
    let fault : c.in_err-make.field-0.0 ≡ NoMemory = cc (sym gives ∙ none) in
    changes_well c.self.invariant.kept.tied c.self.view_is _ c.in_ok-cred.ensures (c.self.inside.files_made + 1)
    (λ t q. make c.args.kind t q c.args.path.now c.args.bits) _ (rw (← c.in_ok-mode.ensures))
    (c.in_err-make.ensures.wanted (ap Err fault) plain)
