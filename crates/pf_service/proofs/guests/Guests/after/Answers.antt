-- One place more.
use Rattle.std.proofs.Common.{rules, ◌≡◌, ◌+◌, ◌∙◌, sym, [], ◌∷◌, ◌++◌, length, ap, arith, length-append}
use Rattle.pf_service.proofs.PlaceLaws.{next_place}
use Rattle.pf_service.proofs.guests.Guests.after.Goals as goal

pub loop-ns-init : goal.loop-ns-init
loop-ns-init g c =
    let counted : c.len-ns.result ≡ length c.args.places.items = search (c.len-ns.ensures, rules) in
    record { numbered = c.requires.numbered; here = omega (arith, counted); first = omega (arith, counted); most = omega (arith, counted, c.requires.few) }

pub loop-ns-preserved : goal.loop-ns-preserved
loop-ns-preserved g c =
    let old = c.loop-ns.places.items in
    let pushed : c.push.new.self.items ≡ old ++ c.in-Some.place ∷ [] = c.in_ok-push.ensures.items in
    let here : c.in-Some.place.ns ≡ length old = c.in-Some.ensures ∙ sym c.loop-ns.invariant.here in
    let counted : length c.push.new.self.items ≡ length old + 1 = omega (arith, ap length pushed, length-append old (c.in-Some.place ∷ [])) in
    record {
      numbered = next_place old c.push.new.self.items (length old) (length c.push.new.self.items) c.in-Some.place c.loop-ns.invariant.numbered here pushed counted;
      here = omega (arith, counted, c.loop-ns.invariant.here);
      first = omega (arith, c.loop-ns.invariant.first);
      most = omega (arith, c.loop-ns-test.true);
    }

pub returns-clause-few : goal.returns-clause-few
returns-clause-few g c = omega (arith, c.loop-ns.invariant.here, c.loop-ns.invariant.most)
