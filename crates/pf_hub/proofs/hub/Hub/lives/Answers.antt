-- Who has a tenant lives.
use Rattle.std.proofs.Common.{◌≡◌, ◌∙◌, option_copied, is_some, rules}
use Rattle.pf_machine.specs.Numbered.{at}
use Rattle.pf_hub.proofs.TenantLaws.{lives_told, is_covered, world_same}
use Rattle.pf_hub.proofs.hub.Hub.lives.Goals as goal

pub returns-clause-living : goal.returns-clause-living
returns-clause-living g c =
    let told : option_copied c.find.result ≡ at c.self.inside.tenants.items c.args.ns = search rules in
    let some : c.is_some.result ≡ is_some c.find.result = search rules in
    some
    ∙ lives_told c.self.inside.depot c.self.inside.tenants.items c.args.ns c.find.result
    (world_same c.self.view_is) told

pub returns-clause-covered : goal.returns-clause-covered
returns-clause-covered g c = is_covered _ _ c.self.invariant (world_same c.self.view_is)
