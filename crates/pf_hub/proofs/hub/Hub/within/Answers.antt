-- Nothing is on loan, and each tenant is a new one of its limits.
use Rattle.std.proofs.Common.{◌≡◌, map, ◌∙◌, ap, rules}
use Rattle.pf_hub.proofs.OpeningLemmas.{opened_shared, opened_hub, opened_allocators, opened_covered}
use Rattle.pf_hub.proofs.hub.Hub.within.Goals as goal

pub invariant_of-result : goal.invariant_of-result
invariant_of-result g c =
    let reserves : c.in_ok-reserves.reserves.items ≡ map (λ e. e.0.reserve) c.args.configs.items = c.in_ok-reserves.ensures ∙ ap (λ xs. map (λ e. e.0.reserve) xs) c.deref.ensures.value in
    let shared = opened_shared c.args.configs.items c.in-Ok.ensures.1 c.in-Ok.ensures.0 reserves c.in_ok-tenants.ensures in
    search (shared, rules)

pub returns-clause-opened : goal.returns-clause-opened
returns-clause-opened g c =
    let reserves : c.in_ok-reserves.reserves.items ≡ map (λ e. e.0.reserve) c.args.configs.items = c.in_ok-reserves.ensures ∙ ap (λ xs. map (λ e. e.0.reserve) xs) c.deref.ensures.value in
    opened_hub c.args.configs.items c.in-Ok.ensures.1 c.in-Ok.ensures.0 reserves c.in_ok-tenants.ensures

pub returns-clause-allocators : goal.returns-clause-allocators
returns-clause-allocators g c =
    let reserves : c.in_ok-reserves.reserves.items ≡ map (λ e. e.0.reserve) c.args.configs.items = c.in_ok-reserves.ensures ∙ ap (λ xs. map (λ e. e.0.reserve) xs) c.deref.ensures.value in
    opened_allocators c.args.configs.items c.in-Ok.ensures.1 c.in-Ok.ensures.0 reserves c.in_ok-tenants.ensures

pub returns-clause-covered : goal.returns-clause-covered
returns-clause-covered g c =
    let reserves : c.in_ok-reserves.reserves.items ≡ map (λ e. e.0.reserve) c.args.configs.items = c.in_ok-reserves.ensures ∙ ap (λ xs. map (λ e. e.0.reserve) xs) c.deref.ensures.value in
    opened_covered c.args.configs.items c.in-Ok.ensures.1 c.in-Ok.ensures.0 reserves c.in_ok-tenants.ensures
