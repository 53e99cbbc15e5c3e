use Rattle.std.proofs.Common.{sym, ◌∙◌}
use Rattle.pf_words.proofs.Digits.{goes_on, fails, exceeds, is_done}
use Rattle.pf_words.proofs.words.digits_of.Goals as goal

pub returns-in_default : goal.returns-in_default
returns-in_default c = fails _ _ _ _ _ _ c.loop-c-test.true (sym c.digit_of.ensures ∙ c.in_default.is) c.loop-c.invariant.1

pub returns-then-next-from : goal.returns-then-next-from
returns-then-next-from c =
    let over = rw (c.from-in-loop-c-3.ensures, c.from.ensures, c.from-in-loop-c.ensures, c.from-in-loop-c-2.ensures) at c.if-next-from.true in
    exceeds _ _ _ _ _ _ _ c.requires.low c.loop-c-test.true (sym c.digit_of.ensures ∙ c.in-Some.is) over c.loop-c.invariant.1

pub loop-c-preserved : goal.loop-c-preserved
loop-c-preserved c =
    let within = rw c.from-in-loop-c-3.ensures at c.if-next-from.false in (
      within,
      rw (c.from.ensures, c.from-in-loop-c.ensures, c.from-in-loop-c-2.ensures) (goes_on _ _ _ _ _ _ _ c.loop-c-test.true (sym c.digit_of.ensures ∙ c.in-Some.is) c.loop-c.invariant.1),
    )

pub returns : goal.returns
returns c = is_done _ _ _ _ _ _ c.loop-c.invariant.0 c.loop-c-test.false c.loop-c.invariant.1
