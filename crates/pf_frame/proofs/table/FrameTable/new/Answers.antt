use Rattle.std.proofs.Common.{◌≡◌, ◌<◌, ℕ, length, arith, rules, replicate}
use Rattle.pf_frame.specs.Counted.{occurs}
use Rattle.pf_frame.proofs.CountedLaws.{idle_table, pushed_once, pushed_within}
use Rattle.pf_frame.proofs.table.FrameTable.new.Goals as goal

pub loop-no-preserved : goal.loop-no-preserved
loop-no-preserved c = record {
  number = omega (arith, c.loop-no.invariant.number);
  room = omega (arith, c.loop-no.invariant.room);
  once = pushed_once _ _ _ c.push_reserved.ensures.items c.loop-no.invariant.once c.loop-no.invariant.within;
  within = pushed_within _ _ _ c.push_reserved.ensures.items c.loop-no.invariant.within;
}

pub invariant_of-result : goal.invariant_of-result
invariant_of-result c =
    let zeros : c.in_ok-counts.counts.items ≡ replicate {A = ℕ} (length c.args.frames.items) 0 = search rules in
    let within : (q : ℕ) → 0 < occurs q c.loop-no.vacant.items → q < length c.args.frames.items = λ q h. omega (arith, c.loop-no.invariant.within q h) in
    record { kept = idle_table _ _ _ _ zeros (omega arith) c.loop-no.invariant.once within c.loop-no.invariant.room (omega arith) }
