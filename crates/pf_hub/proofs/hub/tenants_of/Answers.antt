-- One tenant more, and as many limits as loans are left.
use Rattle.std.proofs.Common.{rules, ◌≡◌, ◌∷◌, ◌++◌, [], length, arith, length-append, ap}
use Rattle.std.specs.Prelude.{Some}
use Rattle.pf_hub.specs.Opening.{new_lodger}
use Rattle.pf_hub.proofs.OpeningLemmas.{one_more}
use Rattle.pf_hub.proofs.hub.tenants_of.Goals as goal

pub loop-config-preserved : goal.loop-config-preserved
loop-config-preserved g c =
    let one = Some (new_lodger (c.in-Some.config, c.in-Some.allocator) c.in-Some-next.own) in
    let pushed : c.push_reserved.new.self.items ≡ c.loop-config.tenants.items ++ one ∷ [] = search rules in
    let made = rw c.in-Some-next.ensures.items at (rw c.in-Some.ensures.steps.0 at c.loop-config.invariant.made) in
    let left = rw c.in-Some-next.ensures.items at (rw c.in-Some.ensures.steps.0 at c.loop-config.invariant.paired) in
    let all = rw c.in-Some.ensures.steps.0 at c.loop-config.invariant.all in
    record {
      made =
          one_more _ c.loop-config.tenants.items c.push_reserved.new.self.items (c.in-Some.config, c.in-Some.allocator)
          c.next.new.self.rest.items c.in-Some-next.own _ pushed made;
      paired = omega (arith, left);
      all = omega (arith, all, ap length pushed, length-append c.loop-config.tenants.items (one ∷ []));
      room = search rules;
    }
