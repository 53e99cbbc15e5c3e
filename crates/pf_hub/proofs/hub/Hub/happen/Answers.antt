-- An admission and a retirement are the house's.
use Rattle.std.proofs.Common.{subst, sym}
use Rattle.pf_base.specs.declared.admission.EventAnswer.TheVariants.{Admitted, Retired}
use Rattle.pf_machine.specs.Houses.{Happens}
use Rattle.pf_hub.specs.Events.{event_of}
use Rattle.pf_hub.specs.Tenants.{house_of}
use Rattle.pf_hub.proofs.HouseLemmas.{admitted_happens, retired_happens}
use Rattle.pf_hub.proofs.hub.Hub.happen.Goals as goal

pub returns-in-Ok-clause-happens : goal.returns-in-Ok-clause-happens
returns-in-Ok-clause-happens g c =
    let made = c.in-Ok.ensures.admitted in
    subst (λ e. Happens (house_of c.args.self.now.world) (event_of e) (Admitted c.in-Ok.number)
    (house_of c.admit.new.self.world)) (sym c.in-Admit.is)
    (admitted_happens c.args.self.now.world c.admit.new.self.world c.in-Admit.config c.in-Ok.number made.0 made.1
    made.2.world)

pub returns-in-Ok-retire-clause-happens : goal.returns-in-Ok-retire-clause-happens
returns-in-Ok-retire-clause-happens g c =
    let made = c.in-Ok-retire.ensures.retired in
    subst (λ e. Happens (house_of c.args.self.now.world) (event_of e) Retired (house_of c.retire.new.self.world))
    (sym c.in-Retire.is)
    (retired_happens c.args.self.now.world c.retire.new.self.world c.in-Retire.ns made.0 made.1.held made.1.world)
