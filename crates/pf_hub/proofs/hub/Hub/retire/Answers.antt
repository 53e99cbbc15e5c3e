-- Who has no process holds nothing, so its place can be emptied, and its reservation is slack.
use Rattle.std.proofs.Common.{◌≡◌, ◌<◌, option_copied, length, subst, sym, ap, ◌∙◌, arith, rules}
use Rattle.pf_machine.specs.Numbered.{at}
use Rattle.pf_machine.specs.Processes.{alive}
use Rattle.pf_machine.proofs.NumberedLaws.{at_within}
use Rattle.pf_tables.specs.Held.{HoldsNone}
use Rattle.pf_hub.specs.declared.tenant.Tenant.{Tenant as Lodger}
use Rattle.pf_hub.proofs.ComingLemmas.{nobody_seen, alive_seen, none_seen, holds_nothing, shared_left, goes_away}
use Rattle.pf_hub.proofs.ComingLemmas.{one_lives}
use Rattle.pf_hub.proofs.StepLemmas.{found, same_some}
use Rattle.pf_hub.proofs.TenantLaws.{there, nowhere, room_after, hub_covered, is_covered, world_same}
use Rattle.pf_hub.proofs.hub.Hub.retire.Goals as goal

pub returns-in_default-clause-retired : goal.returns-in_default-clause-retired
returns-in_default-clause-retired g c =
    let told : option_copied c.find.result ≡ at c.self.inside.tenants.items c.args.ns = search rules in
    let fault = nobody_seen c.self.inside.depot c.self.inside.tenants.items c.args.ns (world_same c.self.view_is)
    (nowhere c.self.inside.tenants.items c.args.ns c.find.result told c.in_default.is) in
    search (fault, rules)

pub returns-in_default-clause-covered : goal.returns-in_default-clause-covered
returns-in_default-clause-covered g c = is_covered _ _ c.self.invariant (world_same c.self.view_is)

pub returns-then-processes-gt0-clause-retired : goal.returns-then-processes-gt0-clause-retired
returns-then-processes-gt0-clause-retired g c =
    let told : option_copied c.find.result ≡ at c.self.inside.tenants.items c.args.ns = search rules in
    let some : 0 < c.processes-processes.result = search rules in
    let fault = alive_seen c.self.inside.depot c.self.inside.tenants.items c.args.ns
    (world_same c.self.view_is) c.in-Some.tenant.now c.processes-processes.result
    (there c.self.inside.tenants.items c.args.ns c.find.result c.in-Some.tenant told c.in-Some.is)
    c.processes-processes.ensures.number some in
    search (fault, rules)

pub returns-then-processes-gt0-clause-covered : goal.returns-then-processes-gt0-clause-covered
returns-then-processes-gt0-clause-covered g c = is_covered _ _ c.self.invariant (world_same c.self.view_is)

pub index_mut-requires : goal.index_mut-requires
index_mut-requires g c =
    let ts = c.self.inside.tenants.items in
    let told : option_copied c.find.result ≡ at ts c.args.ns = search rules in
    let first = there ts c.args.ns c.find.result c.in-Some.tenant told c.in-Some.is in
    let less : c.args.ns < length ts = at_within ts c.args.ns c.in-Some.tenant.now first in
    search (less, rules)

pub retire-requires-clause-none : goal.retire-requires-clause-none
retire-requires-clause-none g c =
    let ts = c.self.inside.tenants.items in
    let told : option_copied c.find.result ≡ at ts c.args.ns = search rules in
    let first = there ts c.args.ns c.find.result c.in-Some.tenant told c.in-Some.is in
    let less = at_within ts c.args.ns c.in-Some.tenant.now first in
    let here = found ts c.args.ns _ c.in-Some-take.field-0 less c.index_mut.ensures.value
    (sym c.take.ensures.value ∙ c.in-Some-take.is) in
    let same = same_some c.in-Some.tenant.now c.in-Some-take.field-0 (sym first ∙ here) in
    let zero : c.processes-processes.result ≡ 0 = omega (arith, c.if-processes-gt0.false) in
    let none = subst (λ (x : Lodger _). HoldsNone x.placed.space) same (c.processes-processes.ensures.none zero) in
    holds_nothing c.self.invariant c.args.ns c.in-Some-take.field-0 here none

pub retire-requires-clause-room : goal.retire-requires-clause-room
retire-requires-clause-room g c =
    let ts = c.self.inside.tenants.items in
    let told : option_copied c.find.result ≡ at ts c.args.ns = search rules in
    let first = there ts c.args.ns c.find.result c.in-Some.tenant told c.in-Some.is in
    let less = at_within ts c.args.ns c.in-Some.tenant.now first in
    let here = found ts c.args.ns _ c.in-Some-take.field-0 less c.index_mut.ensures.value
    (sym c.take.ensures.value ∙ c.in-Some-take.is) in
    let same = same_some c.in-Some.tenant.now c.in-Some-take.field-0 (sym first ∙ here) in
    let zero : c.processes-processes.result ≡ 0 = omega (arith, c.if-processes-gt0.false) in
    let none = subst (λ (x : Lodger _). HoldsNone x.placed.space) same (c.processes-processes.ensures.none zero) in
    room_after c.self.inside.depot ts c.self.invariant c.args.ns c.in-Some-take.field-0 here
    (holds_nothing c.self.invariant c.args.ns c.in-Some-take.field-0 here none)

pub overflow_sub-self : goal.overflow_sub-self
overflow_sub-self g c =
    let ts = c.self.inside.tenants.items in
    let told : option_copied c.find.result ≡ at ts c.args.ns = search rules in
    let first = there ts c.args.ns c.find.result c.in-Some.tenant told c.in-Some.is in
    let less = at_within ts c.args.ns c.in-Some.tenant.now first in
    let here = found ts c.args.ns _ c.in-Some-take.field-0 less c.index_mut.ensures.value
    (sym c.take.ensures.value ∙ c.in-Some-take.is) in
    one_lives c.self.invariant c.args.ns c.in-Some-take.field-0 here

pub invariant_of-self : goal.invariant_of-self
invariant_of-self g c =
    let ts = c.self.inside.tenants.items in
    let told : option_copied c.find.result ≡ at ts c.args.ns = search rules in
    let first = there ts c.args.ns c.find.result c.in-Some.tenant told c.in-Some.is in
    let less = at_within ts c.args.ns c.in-Some.tenant.now first in
    let here = found ts c.args.ns _ c.in-Some-take.field-0 less c.index_mut.ensures.value
    (sym c.take.ensures.value ∙ c.in-Some-take.is) in
    let same = same_some c.in-Some.tenant.now c.in-Some-take.field-0 (sym first ∙ here) in
    let zero : c.processes-processes.result ≡ 0 = omega (arith, c.if-processes-gt0.false) in
    let none = subst (λ (x : Lodger _). HoldsNone x.placed.space) same (c.processes-processes.ensures.none zero) in
    shared_left c.self.invariant c.args.ns c.in-Some-take.field-0 here none c.take.new.self c.take.ensures.after
    c.retire.ensures

pub returns-clause-retired : goal.returns-clause-retired
returns-clause-retired g c =
    let ts = c.self.inside.tenants.items in
    let told : option_copied c.find.result ≡ at ts c.args.ns = search rules in
    let first = there ts c.args.ns c.find.result c.in-Some.tenant told c.in-Some.is in
    let less = at_within ts c.args.ns c.in-Some.tenant.now first in
    let here = found ts c.args.ns _ c.in-Some-take.field-0 less c.index_mut.ensures.value
    (sym c.take.ensures.value ∙ c.in-Some-take.is) in
    let same = same_some c.in-Some.tenant.now c.in-Some-take.field-0 (sym first ∙ here) in
    let zero : c.processes-processes.result ≡ 0 = omega (arith, c.if-processes-gt0.false) in
    let none = subst (λ (x : Lodger _). HoldsNone x.placed.space) same (c.processes-processes.ensures.none zero) in
    let count = c.processes-processes.ensures.number ∙ ap (λ (x : Lodger _). alive x.placed.space.state) same in (
      none_seen c.self.inside.depot ts c.args.ns
          (world_same c.self.view_is) c.in-Some-take.field-0 c.processes-processes.result here count zero,
      goes_away c.self.invariant c.args.ns c.in-Some-take.field-0 here none c.take.new.self c.take.ensures.after
          c.retire.ensures c.self.view_is,
    )

pub returns-clause-covered : goal.returns-clause-covered
returns-clause-covered g c =
    let ts = c.self.inside.tenants.items in
    let told : option_copied c.find.result ≡ at ts c.args.ns = search rules in
    let first = there ts c.args.ns c.find.result c.in-Some.tenant told c.in-Some.is in
    let less = at_within ts c.args.ns c.in-Some.tenant.now first in
    let here = found ts c.args.ns _ c.in-Some-take.field-0 less c.index_mut.ensures.value
    (sym c.take.ensures.value ∙ c.in-Some-take.is) in
    let same = same_some c.in-Some.tenant.now c.in-Some-take.field-0 (sym first ∙ here) in
    let zero : c.processes-processes.result ≡ 0 = omega (arith, c.if-processes-gt0.false) in
    let none = subst (λ (x : Lodger _). HoldsNone x.placed.space) same (c.processes-processes.ensures.none zero) in
    hub_covered _ _
    (shared_left c.self.invariant c.args.ns c.in-Some-take.field-0 here none c.take.new.self c.take.ensures.after
    c.retire.ensures)
