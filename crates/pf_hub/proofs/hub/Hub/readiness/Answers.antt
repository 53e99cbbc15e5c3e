-- What holds of the tenant, over its own frames, holds here.
use Rattle.std.proofs.Common.{◌≡◌, option_copied, rules}
use Rattle.pf_machine.specs.Numbered.{at}
use Rattle.pf_machine.specs.Queries.{readiness}
use Rattle.pf_hub.proofs.HubBounds.{held_in}
use Rattle.pf_hub.proofs.TenantLaws.{there, nowhere, not_nowhere, stands, world_same}
use Rattle.pf_hub.proofs.hub.Hub.readiness.Goals as goal

pub unreachable-requires : goal.unreachable-requires
unreachable-requires g c =
    let told : option_copied c.find.result ≡ at c.self.inside.tenants.items c.args.ns = search rules in
    not_nowhere c.self.inside.tenants.items c.args.ns
    (nowhere c.self.inside.tenants.items c.args.ns c.find.result told c.in-None.is)
    (stands c.self.inside.depot c.self.inside.tenants.items c.args.ns (world_same c.self.view_is) c.requires.lives)

pub returns : goal.returns
returns g c =
    let told : option_copied c.find.result ≡ at c.self.inside.tenants.items c.args.ns = search rules in
    held_in (λ l s. c.readiness.result ≡ readiness s c.args.pid c.args.fd) c.args.ns c.in-Some.tenant.now c.self.invariant (world_same c.self.view_is)
    (there c.self.inside.tenants.items c.args.ns c.find.result c.in-Some.tenant told c.in-Some.is)
    c.readiness.ensures
