-- Nothing is live, and each namespace is a new one of its limits.
use Rattle.std.proofs.Common.{◌≡◌, length, map, rules}
use Rattle.pf_plain.proofs.PlainLemmas.{opening_plain, opening_is, plain_covered, is_told}
use Rattle.pf_plain.proofs.plain.Plain.new.Goals as goal

pub returns-in_err-pool-clause-fault : goal.returns-in_err-pool-clause-fault
returns-in_err-pool-clause-fault g c =
    let reserves : c.in-Ok.reserves.items ≡ map (λ e. e.0.reserve) c.args.configs.items = search rules in
    let told =
    is_told (length c.args.frames.items) c.in-Ok.reserves.items c.in_err-pool.field-0.0 c.args.configs.items
    reserves c.in_err-pool.ensures in
    search (told, rules)

pub invariant_of-result : goal.invariant_of-result
invariant_of-result g c =
    let reserves : c.in-Ok.reserves.items ≡ map (λ e. e.0.reserve) c.args.configs.items = search rules in
    opening_plain c.args.configs.items c.in_ok-pool.ensures.1 reserves c.in-Ok-spaces_of.ensures

pub returns-in-Ok-spaces_of-clause-opened : goal.returns-in-Ok-spaces_of-clause-opened
returns-in-Ok-spaces_of-clause-opened g c =
    let reserves : c.in-Ok.reserves.items ≡ map (λ e. e.0.reserve) c.args.configs.items = search rules in
    opening_is c.args.configs.items c.in_ok-pool.ensures.1 reserves c.in-Ok-spaces_of.ensures

pub returns-in-Ok-spaces_of-clause-covered : goal.returns-in-Ok-spaces_of-clause-covered
returns-in-Ok-spaces_of-clause-covered g c =
    let reserves : c.in-Ok.reserves.items ≡ map (λ e. e.0.reserve) c.args.configs.items = search rules in
    plain_covered _ _ (opening_plain c.args.configs.items c.in_ok-pool.ensures.1 reserves c.in-Ok-spaces_of.ensures)
