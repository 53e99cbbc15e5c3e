-- The tenant of a number that lives does as its step says, beside its allocator, and all others stay.
use Rattle.std.proofs.Common.{◌<◌, length, rules}
use Rattle.pf_hub.proofs.StepLemmas.{found, found_none, shared_after, step_seen, allocators_seen}
use Rattle.pf_hub.proofs.TenantLaws.{place, stands, not_nowhere, door_covered, world_same}
use Rattle.pf_hub.proofs.hub.Hub.resume_in.Goals as goal

pub index_mut-requires : goal.index_mut-requires
index_mut-requires g c =
    let lives = stands c.self.inside.depot c.self.inside.tenants.items c.args.ns (world_same c.self.view_is) c.requires.lives in
    let less : c.args.ns < length c.self.inside.tenants.items = place c.self.inside.tenants.items c.args.ns lives in
    search (less, rules)

pub resume_into-requires-clause-covered : goal.resume_into-requires-clause-covered
resume_into-requires-clause-covered g c =
    let lives = stands c.self.inside.depot c.self.inside.tenants.items c.args.ns (world_same c.self.view_is) c.requires.lives in
    let less : c.args.ns < length c.self.inside.tenants.items = place c.self.inside.tenants.items c.args.ns lives in
    let there = found c.self.inside.tenants.items c.args.ns _ c.in-Some.tenant less c.index_mut.ensures.value c.in-Some.is in
    door_covered c.self.inside.depot c.self.inside.tenants.items c.self.invariant c.args.ns c.in-Some.tenant there

pub resume_into-requires-clause-owns : goal.resume_into-requires-clause-owns
resume_into-requires-clause-owns g c =
    let lives = stands c.self.inside.depot c.self.inside.tenants.items c.args.ns (world_same c.self.view_is) c.requires.lives in
    let less : c.args.ns < length c.self.inside.tenants.items = place c.self.inside.tenants.items c.args.ns lives in
    let there = found c.self.inside.tenants.items c.args.ns _ c.in-Some.tenant less c.index_mut.ensures.value c.in-Some.is in
    c.self.invariant.owned c.args.ns c.in-Some.tenant there

pub invariant_of-self : goal.invariant_of-self
invariant_of-self g c =
    let lives = stands c.self.inside.depot c.self.inside.tenants.items c.args.ns (world_same c.self.view_is) c.requires.lives in
    let less : c.args.ns < length c.self.inside.tenants.items = place c.self.inside.tenants.items c.args.ns lives in
    let there = found c.self.inside.tenants.items c.args.ns _ c.in-Some.tenant less c.index_mut.ensures.value c.in-Some.is in
    shared_after c.args.ns there c.self.invariant c.resume_into.new.self c.resume_into.ensures.lodges.is

pub returns-clause-stepped : goal.returns-clause-stepped
returns-clause-stepped g c =
    let lives = stands c.self.inside.depot c.self.inside.tenants.items c.args.ns (world_same c.self.view_is) c.requires.lives in
    let less : c.args.ns < length c.self.inside.tenants.items = place c.self.inside.tenants.items c.args.ns lives in
    let there = found c.self.inside.tenants.items c.args.ns _ c.in-Some.tenant less c.index_mut.ensures.value c.in-Some.is in
    let told = c.resume_into.ensures.lodges in
    record {
      reply = told.reply;
      is = step_seen c.args.ns there c.self.invariant c.resume_into.new.self told.is c.self.view_is;
      told_is = told.told_is;
      bytes_lie = told.bytes_lie;
    }

pub returns-clause-allocators : goal.returns-clause-allocators
returns-clause-allocators g c =
    let lives = stands c.self.inside.depot c.self.inside.tenants.items c.args.ns (world_same c.self.view_is) c.requires.lives in
    let less : c.args.ns < length c.self.inside.tenants.items = place c.self.inside.tenants.items c.args.ns lives in
    let there = found c.self.inside.tenants.items c.args.ns _ c.in-Some.tenant less c.index_mut.ensures.value c.in-Some.is in
    allocators_seen c.args.ns there c.self.invariant c.resume_into.new.self c.resume_into.ensures.lodges.is c.self.view_is

pub unreachable-requires : goal.unreachable-requires
unreachable-requires g c =
    let lives = stands c.self.inside.depot c.self.inside.tenants.items c.args.ns (world_same c.self.view_is) c.requires.lives in
    let less : c.args.ns < length c.self.inside.tenants.items = place c.self.inside.tenants.items c.args.ns lives in
    not_nowhere c.self.inside.tenants.items c.args.ns
    (found_none c.self.inside.tenants.items c.args.ns _ less c.index_mut.ensures.value c.in-None.is) lives
