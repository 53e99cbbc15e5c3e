-- The newcomer stands at the end, with its loans.
use Rattle.std.proofs.Common.{◌∷◌, ◌++◌, [], Some, subst, ◌∙◌}
use Rattle.pf_depot.specs.Depot.{SetsAside}
use Rattle.pf_depot.specs.Loans.{loans_live}
use Rattle.pf_frame.specs.Live.{IsIdle}
use Rattle.pf_hub.proofs.hub.coming.add.Goals as goal

pub returns : goal.returns
returns g c = record {
  loans = c.in-Ok-admit.loans;
  aside = subst (λ n. SetsAside c.args.depot.now c.admit.new.self n) c.reserve-2.ensures.value c.in-Ok-admit.ensures.1;
  idle = subst (λ n. IsIdle n (loans_live c.in-Ok-admit.loans)) c.reserve-2.ensures.value c.in-Ok-admit.ensures.2;
  tenants =
      c.push_reserved.ensures.items
      ∙ (λ i. c.reserve.ensures.items i ++ Some (record {
        loans = c.in-Ok-admit.loans;
        placed = record { space = c.in-Ok.ensures.space i; allocator = c.in-Ok.ensures.allocator i };
      }) ∷ []);
}
