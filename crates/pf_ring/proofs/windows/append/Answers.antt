use Rattle.std.proofs.lemmas.Grind.{common_steps}
use Rattle.std.proofs.Common.{◌≡◌, ℕ, ◌+◌, length, sym, ◌∙◌, eqb-true, Bool, false, ◌==◌, arith}
use Rattle.std.proofs.lemmas.Bool.Decides.{nat_tests}
use Rattle.pf_ring.proofs.WindowLaws.{bytes_in_le}
use Rattle.pf_ring.proofs.Loops.{appending_more, appending_end}
use Rattle.pf_ring.proofs.StepsLaws.{steps_then, steps_are}
use Rattle.pf_ring.proofs.windows.append.Goals as goal

not_empty : (b : Bool) (n : ℕ) → b ≡ (n == 0) → b ≡ false → n ≡ 0 → ⊥
not_empty b n e f z = grind (arith, nat_tests)

pub loop-preserved : goal.loop-preserved
loop-preserved g c = record {
  number = omega arith;
  appending =
      let some : length c.loop.rest.now ≡ 0 → ⊥ = λ e. not_empty c.is_empty.result (length c.loop.rest.now) c.is_empty.ensures c.if-is_empty.false e in
      let used : length c.push_piece.new.windows.items ≡ c.loop.counter + 1 = omega arith in
      steps_then c.loop.invariant.appending c.push_piece.ensures.puts (appending_more (g.F.Frames.live c.args.door.now) (g.F.Frames.live c.loop.door) (g.F.Frames.live c.push_piece.new.door) c.args.windows.now.items c.loop.windows.items c.push_piece.new.windows.items c.args.slots c.loop.counter c.min.result
      _ c.args.bytes.now c.loop.rest.now c.split_at.result.0.now c.split_at.result.1.now c.loop.invariant.appending.door.frames c.loop-test.true (omega arith) c.min.ensures c.split_at.ensures.front c.split_at.ensures.back used
      c.push_piece.ensures.segments c.push_piece.ensures.puts.door.frames);
}

pub returns-after-loop-clause-most : goal.returns-after-loop-clause-most
returns-after-loop-clause-most g c = omega (arith, bytes_in_le c.loop.windows.items c.loop.invariant.appending.door.frames.puts.keeps.within)

pub returns-then-is_empty-clause-segments : goal.returns-then-is_empty-clause-segments
returns-then-is_empty-clause-segments g c = (appending_end _ _ _ _ _ _ _ _ _ c.loop.invariant.appending.door.frames (eqb-true _ _ (sym c.is_empty.ensures ∙ c.if-is_empty.true))).0

pub returns-then-is_empty-clause-most : goal.returns-then-is_empty-clause-most
returns-then-is_empty-clause-most g c = omega (arith, bytes_in_le c.loop.windows.items c.loop.invariant.appending.door.frames.puts.keeps.within)

pub returns-then-is_empty-clause-puts : goal.returns-then-is_empty-clause-puts
returns-then-is_empty-clause-puts g c = steps_are c.loop.invariant.appending (appending_end _ _ _ _ _ _ _ _ _ c.loop.invariant.appending.door.frames (eqb-true _ _ (sym c.is_empty.ensures ∙ c.if-is_empty.true))).1

pub loop-init : goal.loop-init
loop-init g c = grind (arith, common_steps)
