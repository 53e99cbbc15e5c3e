-- The place that was found has this number. What lay behind its lock isn't said, and that who waits there was woken
-- neither: of the waiters that there are both are `Unit`.
use Rattle.std.proofs.Common.{rules, ℕ}
use Rattle.pf_service.specs.declared.seated.Seated.{Seated as OneSeated}
use Rattle.pf_service.proofs.FaultLaws.{gave_back, not_retired}
use Rattle.pf_service.proofs.service.Service.retire_by.Goals as goal

pub returns-in-Ok-clause-returned : goal.returns-in-Ok-clause-returned
returns-in-Ok-clause-returned g c =
    let Returned : ℕ → ℕ → ℕ → Type 0 = λ n reserve stock. g.D.Returns.returned c.args.way.now n reserve stock in
    let Fact : OneSeated g.row.A.Denot g.row.C.Denot g.row.H.Denot → Type 0 = λ s. Unit {0} in
    gave_back Fact Fact Returned _ _ _ c.in-Ok.ensures.found.0 (search rules steps 1000000)

pub returns-in-Ok-clause-fault : goal.returns-in-Ok-clause-fault
returns-in-Ok-clause-fault g c = search (not_retired, rules) steps 1000000

pub returns-in-Ok-clause-missing : goal.returns-in-Ok-clause-missing
returns-in-Ok-clause-missing g c = search rules steps 1000000
