use Rattle.std.proofs.Common.{◌≡◌, ◌<◌, ℕ, List, length, arith, rules, replicate, ap, ◌∙◌, None}
use Rattle.std.specs.Prelude.{Option}
use Rattle.std.proofs.lemmas.List.{length-replicate}
use Rattle.pf_frame.specs.declared.frame.Frame.{Frame}
use Rattle.pf_frame.specs.Counted.{occurs}
use Rattle.pf_frame.proofs.CountedLaws.{idle_table, pushed_once, pushed_within}
use Rattle.pf_depot.proofs.PlacesLaws.{lent_none, lent_idle}
use Rattle.pf_depot.proofs.loans.Loans.new.Goals as goal

pub loop-no-preserved : goal.loop-no-preserved
loop-no-preserved c = record {
  number = omega (arith, c.loop-no.invariant.number);
  room = omega (arith, c.loop-no.invariant.room);
  once = pushed_once _ _ _ c.push_reserved.ensures.items c.loop-no.invariant.once c.loop-no.invariant.within;
  within = pushed_within _ _ _ c.push_reserved.ensures.items c.loop-no.invariant.within;
}

pub invariant_of-result : goal.invariant_of-result
invariant_of-result c =
    let n = c.args.reserve in
    let zeros : c.in_ok-counts.counts.items ≡ replicate {A = ℕ} n 0 = search rules in
    let nones : c.in_ok-places.places.items ≡ replicate {A = Option Frame} n None = search rules in
    let size : length c.in_ok-places.places.items ≡ n = ap (λ (ps : List (Option Frame)). length ps) nones ∙ length-replicate {A = Option Frame} n None in
    let within : (q : ℕ) → 0 < occurs q c.loop-no.vacant.items → q < n = λ q h. omega (arith, c.loop-no.invariant.within q h) in
    record {
      kept = rw size (idle_table _ _ _ _ zeros (omega arith) c.loop-no.invariant.once within c.loop-no.invariant.room (omega arith));
      lent = lent_none n _ _ zeros nones;
    }

pub returns : goal.returns
returns c =
    let zeros : c.in_ok-counts.counts.items ≡ replicate {A = ℕ} c.args.reserve 0 = search rules in
    lent_idle c.args.reserve _ _ zeros
