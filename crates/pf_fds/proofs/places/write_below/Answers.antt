use Rattle.std.proofs.Common.{◌≡◌, ap, ◌∙◌, arith, ◌+◌, ◌-◌, ◌∷◌, [], ◌++◌, length, replicate, None, refl, vec_len}
use Rattle.pf_fds.proofs.Takes.{no_gaps, gaps_more}
use Rattle.pf_fds.proofs.places.write_below.Goals as goal

pub loop-values-init : goal.loop-values-init
loop-values-init g c = record {
  items = no_gaps c.args.values.now.items _ (omega arith);
  capacity = refl;
  more = omega arith;
  most = omega arith;
}

pub loop-values-preserved : goal.loop-values-preserved
loop-values-preserved g c =
    let old = c.args.values.now.items in
    let more : vec_len c.push_reserved.new.self - length old ≡ vec_len c.loop-values.values - length old + 1 = omega (arith, c.push_reserved.ensures.len, c.loop-values.invariant.more) in
    record {
      items = c.push_reserved.ensures.items ∙ ap (λ xs. xs ++ None ∷ []) c.loop-values.invariant.items ∙ gaps_more old _ _ more;
      capacity = c.push_reserved.ensures.capacity ∙ c.loop-values.invariant.capacity;
      more = omega (arith, c.push_reserved.ensures.len, c.loop-values.invariant.more);
      most = omega (arith, c.push_reserved.ensures.len, c.loop-values.invariant.more, c.loop-values-test.true);
    }

pub returns-clause-items : goal.returns-clause-items
returns-clause-items g c =
    let old = c.args.values.now.items in
    let all : vec_len c.loop-values.values - length old ≡ c.args.n - length old = omega (arith, c.loop-values.invariant.most, c.loop-values-test.false) in
    c.loop-values.invariant.items ∙ ap (λ m. old ++ replicate m None) all
