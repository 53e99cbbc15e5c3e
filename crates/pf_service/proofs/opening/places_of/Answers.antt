-- One place more, and as many limits as allotments are left.
use Rattle.std.proofs.Common.{rules, ◌≡◌, ◌+◌, ◌∷◌, ◌++◌, [], length, drop, ℕ, suc, List, arith, length-append, ap, ◌∙◌}
use Rattle.pf_service.specs.Log.{new_log}
use Rattle.std.proofs.lemmas.Option.{slice_get_within}
use Rattle.pf_service.proofs.PlaceLaws.{next_place, next_left, put_there, locked_more}
use Rattle.pf_service.proofs.opening.places_of.Goals as goal

pub loop-config-init : goal.loop-config-init
loop-config-init g c = record {
  numbered = search rules;
  reserved = search (c.into_iter-allotments.ensures.rest, c.into_iter-config-iterator.ensures.into_iter_gives, c.requires.reserved, rules);
  all = search rules;
  rest = search (c.in_ok-places.ensures, c.into_iter-config-iterator.ensures.into_iter_gives, rules);
  locked = λ n e low is. absurd (omega (arith, low, ap length c.in_ok-places.ensures.items));
  room = search rules;
}

pub overflow_cast-ns : goal.overflow_cast-ns
overflow_cast-ns g c = omega (arith, c.loop-config.invariant.all, c.requires.few)

pub returns-clause-numbered : goal.returns-clause-numbered
returns-clause-numbered g c = search (c.loop-config.invariant.numbered, c.loop-config.invariant.all, c.in-None.ensures.steps, rules)

pub returns-clause-locked : goal.returns-clause-locked
returns-clause-locked g c = λ n e is.
    let within = slice_get_within c.args.configs.items n e is in
    let whole : length c.loop-config.places.items ≡ length c.args.configs.items
    = search (c.loop-config.invariant.all, c.in-None.ensures.steps, rules) in
    c.loop-config.invariant.locked n e (omega (arith, within, whole)) is

pub loop-config-preserved : goal.loop-config-preserved
loop-config-preserved g c =
    let old = c.loop-config.places.items in
    let pushed : c.push_reserved.new.self.items ≡ old ++ c.lock.result ∷ [] = c.push_reserved.ensures.items in
    let counted : length c.push_reserved.new.self.items ≡ length old + 1 = omega (arith, ap length pushed, length-append old (c.lock.result ∷ [])) in
    let counted' : length c.push_reserved.new.self.items ≡ suc (length old) = omega (arith, counted) in
    let left_over = next_left c.args.configs.items (length old) (c.in-Some.config, c.in-Some.tree) c.next.new.self.rest.items
    (c.loop-config.invariant.rest ∙ c.in-Some.ensures.steps.0) in
    let logged : c.new-living.result.logged ≡ new_log c.in-Some.config c.in-Some.tree
    = c.new-living.ensures ∙ ap (new_log c.in-Some.config) c.in_ok-placed.ensures.allocator in
    let at : c.len-ns.result ≡ length old = search (c.len-ns.ensures, rules) in
    let here = put_there (λ n log. g.L.Locks.locked c.args.way.now n g.row.A.Denot log) c.len-ns.result (length old)
    c.new-living.result.logged (new_log c.in-Some.config c.in-Some.tree) at logged c.lock.ensures.locked in
    let left = rw c.in-Some-next.ensures.items at (rw c.in-Some.ensures.steps.0 at c.loop-config.invariant.reserved) in
    let all = rw c.in-Some.ensures.steps.0 at c.loop-config.invariant.all in
    record {
      numbered = next_place old c.push_reserved.new.self.items (length old) (length c.push_reserved.new.self.items) c.lock.result c.loop-config.invariant.numbered
          (c.lock.ensures.number ∙ at) pushed counted;
      reserved = ap (λ (ns : List ℕ). drop 1 ns) left;
      all = omega (arith, all, counted);
      rest = ap (λ n. drop n c.args.configs.items) counted' ∙ left_over.1;
      locked = locked_more (λ n log. g.L.Locks.locked c.args.way.now n g.row.A.Denot log) c.args.configs.items (length old)
          (length c.push_reserved.new.self.items) (c.in-Some.config, c.in-Some.tree) counted c.loop-config.invariant.locked
          left_over.0 here;
      room = search rules;
    }
