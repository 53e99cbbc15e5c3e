-- A hub may be sent to another thread where its files' memory may.
use denote.RattleType.{RattleType}
use denote.Param.Send.{IsSend, Frees, sendable, view_send}
use denote.Param.SendFields.{declared_send}
use Rattle.std.proofs.Crossing.{crosses}
use Rattle.std.specs.declared.alloc.Allocator as Allocator
use Rattle.pf_depot.proofs.depot.Depot.TheSendSync as depot
use Rattle.pf_depot.proofs.loans.Loans.TheSendSync as loans
use Rattle.pf_space.proofs.Sendable.{placed_send}
use Rattle.pf_hub.specs.contracts.hub.Hub as Hub
use Rattle.pf_hub.specs.contracts.hub.Hub.TheInside as in_hub
use Rattle.pf_hub.specs.contracts.tenant.Tenant as Tenant

module _ (A : RattleType) (g : Allocator.Ghosts A.Denot) (s : IsSend A) (f : Frees g g.dealloc_token) where
  tenant_send : IsSend (Tenant.the_row A g)
  tenant_send =
      let placed = placed_send A g s f in
      declared_send (Tenant.the_type A g) (loans.the_send, (placed, tt))

  in_hub_send : IsSend (in_hub.the_row A g)
  in_hub_send =
      declared_send (in_hub.the_type A g)
      ((search (sendable, crosses) depth 20), (depot.the_send, ((search (sendable, crosses, tenant_send) depth 20), ((search sendable depth 20), tt))))

  pub hub_send : IsSend (Hub.the_row A g)
  hub_send = view_send (in_hub.the_row A g) _ _ _ _ in_hub_send
