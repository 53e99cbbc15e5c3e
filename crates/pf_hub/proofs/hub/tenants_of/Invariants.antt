-- The tenants of the limits so far, loans for the others, and room for them.
use Rattle.std.proofs.Common.{◌≡◌, ◌+◌, ◌++◌, length}
use Rattle.std.specs.Vec.{vec_capacity}
use Rattle.pf_hub.specs.Opening.{new_lodgers}
use Rattle.pf_hub.proofs.hub.tenants_of.Given as goal

abbrev pub invariant-loop-config : goal.invariant-loop-config
invariant-loop-config g l = record {
  made : l.tenants.items ++ new_lodgers l.config-iterator.rest.items l.each.rest.items
      ≡ new_lodgers l.fn.configs.items l.fn.loans.items;
  paired : length l.each.rest.items ≡ length l.config-iterator.rest.items;
  all : length l.tenants.items + length l.config-iterator.rest.items ≡ length l.fn.configs.items;
  room : vec_capacity l.tenants ≡ length l.fn.configs.items;
}
