-- The invariant says so of what the hub is made of.
use Rattle.std.proofs.Common.{rules}
use Rattle.pf_hub.proofs.OwnerLemmas.{are_owned}
use Rattle.pf_hub.proofs.TenantLaws.{world_same}
use Rattle.pf_hub.proofs.hub.Hub.parts.Goals as goal

pub returns-clause-owned : goal.returns-clause-owned
returns-clause-owned g c = let owned = are_owned c.self.invariant (world_same c.self.view_is) in search (owned, rules)
