use Rattle.std.proofs.Common.{◌≡◌, ℕ, Vec, Global, Err, IsOk, refl, sym, ap, subst, rules}
use Rattle.pf_base.specs.declared.fault.Fault.TheVariants.{NoMemory}
use Rattle.pf_machine.specs.Files.{list}
use Rattle.pf_tables.proofs.Files.{goes_well, tells, tells_not}
use Rattle.pf_tables.proofs.tables.Tables.list.Goals as goal

pub returns-in_ok-new-in-Ok-clause-says : goal.returns-in_ok-new-in-Ok-clause-says
returns-in_ok-new-in-Ok-clause-says g c =
    let said =
    tells c.self.invariant.kept.tied c.self.view_is _ c.in_ok-cred.ensures (λ t q. list t q c.args.path.now) _ _ refl
    (rw c.tree.ensures at c.in-Ok.ensures.told) refl in
    search rules

pub returns-in-Err-clause-says : goal.returns-in-Err-clause-says
returns-in-Err-clause-says g c =
    tells_not c.self.invariant.kept.tied c.self.view_is _ c.in_ok-cred.ensures (λ t q. list t q c.args.path.now) _ _
    refl (λ (names : Vec ℕ Global). names.items) c.args.self.now c.in-Err.fault
    (rw c.tree.ensures at c.in-Err.ensures.told)

pub returns-in_err-new-in-Ok-clause-wanted : goal.returns-in_err-new-in-Ok-clause-wanted
returns-in_err-new-in-Ok-clause-wanted g c none plain =
    goes_well c.self.invariant.kept.tied c.self.view_is _ c.in_ok-cred.ensures (λ t q. list t q c.args.path.now) _ _
    refl (λ x. refl) (subst IsOk (sym (rw c.tree.ensures at c.in-Ok.ensures.told)) refl)

pub returns-in-Err-clause-wanted : goal.returns-in-Err-clause-wanted
returns-in-Err-clause-wanted g c none plain =
    let fault : c.in-Err.fault ≡ NoMemory = cc none in
    goes_well c.self.invariant.kept.tied c.self.view_is _ c.in_ok-cred.ensures (λ t q. list t q c.args.path.now) _ _
    refl (λ x. refl) (rw c.tree.ensures at (c.in-Err.ensures.wanted (ap Err fault) plain))
