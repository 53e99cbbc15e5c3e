-- The tenant's loans say what it holds, and nobody holds nothing.
use Rattle.std.proofs.Common.{◌≡◌, option_copied, rules}
use Rattle.pf_machine.specs.Numbered.{at}
use Rattle.pf_hub.proofs.TenantLaws.{there, nowhere, held_there, held_nowhere, world_same}
use Rattle.pf_hub.proofs.hub.Hub.held.Goals as goal

pub returns-in-Some : goal.returns-in-Some
returns-in-Some g c =
    let told : option_copied c.find.result ≡ at c.self.inside.tenants.items c.args.ns = search rules in
    held_there c.self.inside.depot c.self.inside.tenants.items c.args.ns c.held.result c.in-Some.tenant.now
    (world_same c.self.view_is) (there c.self.inside.tenants.items c.args.ns c.find.result c.in-Some.tenant told c.in-Some.is)
    c.held.ensures

pub returns-in-None : goal.returns-in-None
returns-in-None g c =
    let told : option_copied c.find.result ≡ at c.self.inside.tenants.items c.args.ns = search rules in
    held_nowhere c.self.inside.depot c.self.inside.tenants.items c.args.ns (world_same c.self.view_is)
    (nowhere c.self.inside.tenants.items c.args.ns c.find.result told c.in-None.is)
