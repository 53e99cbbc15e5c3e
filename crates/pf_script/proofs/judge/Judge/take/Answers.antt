use Rattle.std.proofs.Common.{arith}
use Rattle.pf_words.proofs.CutLaws.{whole}
use Rattle.pf_script.proofs.Lines.{judges_on, judges_fault, no_byte}
use Rattle.pf_script.proofs.judge.Judge.take.Goals as goal

pub returns-in-Err-Refused-clause-judged : goal.returns-in-Err-Refused-clause-judged
returns-in-Err-Refused-clause-judged c =
    let refused = rw c.in-Err-Refused.field-0-is at c.in-Err-Refused.ensures.moves in
    rw c.in-Err-Refused.cause-is (judges_fault _ c.loop-k.self _ _ _ _ _ _ _ c.in-Some.ensures c.cut_at.ensures.front refused c.loop-k.invariant.1 c.loop-k.invariant.0)

pub returns-in-Err-Refused-clause-one_line : goal.returns-in-Err-Refused-clause-one_line
returns-in-Err-Refused-clause-one_line c = no_byte

pub loop-k-preserved : goal.loop-k-preserved
loop-k-preserved c = (
  rw c.cut_at.ensures.back (judges_on _ c.loop-k.self _ _ _ _ _ c.in-Some.ensures c.cut_at.ensures.front c.in-Ok.ensures.moves c.loop-k.invariant.1 c.loop-k.invariant.0),
  c.loop-k.invariant.1,
  omega (arith, c.cut_at.ensures.shorter, c.loop-k.invariant.2),
)

pub returns-clause-one_line : goal.returns-clause-one_line
returns-clause-one_line c = whole _ _ (rw c.in_default.is at c.find_near.ensures)
