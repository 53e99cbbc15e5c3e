-- The counter is the number of those who live.
use Rattle.pf_hub.proofs.TenantLaws.{living_is, world_same}
use Rattle.pf_hub.proofs.hub.Hub.living.Goals as goal

pub returns-clause-living : goal.returns-clause-living
returns-clause-living g c =
    living_is c.self.inside.depot c.self.inside.tenants.items c.self.invariant (world_same c.self.view_is)
