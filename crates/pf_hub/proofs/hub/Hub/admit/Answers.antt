-- The first test that fails is the house's, and where none does a newcomer stands at the end.
use Rattle.std.proofs.Common.{◌≡◌, length, refl, ap, sym, ◌∙◌, rules}
use Rattle.pf_depot.specs.Depot.{slack_of}
use Rattle.pf_hub.specs.Tenants.{Housed}
use Rattle.pf_hub.proofs.ComingLemmas.{shared_added, comes_added, shared_still, seen_still, fault_told, refused, wanted}
use Rattle.pf_hub.proofs.ComingLemmas.{room}
use Rattle.pf_hub.proofs.TenantLaws.{hub_covered, is_covered, number_is, world_same}
use Rattle.pf_hub.proofs.hub.Hub.admit.Goals as goal

pub returns-in-Some-clause-admitted : goal.returns-in-Some-clause-admitted
returns-in-Some-clause-admitted g c =
    let many : c.len-number.result ≡ length c.self.inside.tenants.items = search rules in
    let left : c.slack-slack.result ≡ slack_of c.self.inside.depot = search rules in (
      refl,
      refused c.self.invariant (world_same c.self.view_is) c.first_test.result c.len-number.result
          c.slack-slack.result c.reserve.result c.args.config.reserve many left c.reserve.ensures.value
          c.first_test.ensures c.in-Some.fault
          c.in-Some.is,
    )

pub returns-in-Some-clause-covered : goal.returns-in-Some-clause-covered
returns-in-Some-clause-covered g c = is_covered _ _ c.self.invariant (world_same c.self.view_is)

pub add-requires : goal.add-requires
add-requires g c =
    let many : c.len-number.result ≡ length c.self.inside.tenants.items = search rules in
    let left : c.slack-slack.result ≡ slack_of c.self.inside.depot = search rules in
    let may = room c.self.invariant (world_same c.self.view_is) c.first_test.result c.len-number.result
    c.slack-slack.result c.reserve.result c.args.config.reserve many left c.reserve.ensures.value
    c.first_test.ensures c.in_default.is in
    may.2

pub returns-in_err-add-clause-admitted : goal.returns-in_err-add-clause-admitted
returns-in_err-add-clause-admitted g c =
    let many : c.len-number.result ≡ length c.self.inside.tenants.items = search rules in
    let left : c.slack-slack.result ≡ slack_of c.self.inside.depot = search rules in
    let same = seen_still c.self.invariant c.in_err-add.ensures c.self.view_is in
    let fault = wanted c.self.invariant (world_same c.self.view_is) c.first_test.result c.len-number.result
    c.slack-slack.result c.reserve.result c.args.config.reserve many left c.reserve.ensures.value
    c.first_test.ensures _ c.in_default.is
    c.in_err-add.ensures.fault in
    search (same, fault, rules)

pub returns-in_err-add-clause-covered : goal.returns-in_err-add-clause-covered
returns-in_err-add-clause-covered g c = hub_covered _ _ (shared_still c.self.invariant c.in_err-add.ensures)

pub invariant_of-self-2 : goal.invariant_of-self-2
invariant_of-self-2 g c =
    let many : c.len-number.result ≡ length c.self.inside.tenants.items = search rules in
    let left : c.slack-slack.result ≡ slack_of c.self.inside.depot = search rules in
    let may = room c.self.invariant (world_same c.self.view_is) c.first_test.result c.len-number.result
    c.slack-slack.result c.reserve.result c.args.config.reserve many left c.reserve.ensures.value
    c.first_test.ensures c.in_default.is in
    shared_added c.self.invariant c.in_ok-add.ensures may.0 may.1

pub returns-clause-admitted : goal.returns-clause-admitted
returns-clause-admitted g c =
    let many : c.len-number.result ≡ length c.self.inside.tenants.items = search rules in
    let left : c.slack-slack.result ≡ slack_of c.self.inside.depot = search rules in
    let none = sym (fault_told c.self.invariant (world_same c.self.view_is) c.first_test.result c.len-number.result
    c.slack-slack.result c.reserve.result c.args.config.reserve many left c.reserve.ensures.value
    c.first_test.ensures) ∙ c.in_default.is in (
      none,
      many ∙ sym (number_is c.self.inside.depot c.self.inside.tenants.items)
          ∙ ap (λ (x : Housed _). length x.world.tenants) c.self.view_is,
      comes_added c.self.invariant c.in_ok-add.ensures c.self.view_is,
    )

pub returns-clause-covered : goal.returns-clause-covered
returns-clause-covered g c =
    let many : c.len-number.result ≡ length c.self.inside.tenants.items = search rules in
    let left : c.slack-slack.result ≡ slack_of c.self.inside.depot = search rules in
    let may = room c.self.invariant (world_same c.self.view_is) c.first_test.result c.len-number.result
    c.slack-slack.result c.reserve.result c.args.config.reserve many left c.reserve.ensures.value
    c.first_test.ensures c.in_default.is in
    hub_covered _ _ (shared_added c.self.invariant c.in_ok-add.ensures may.0 may.1)
