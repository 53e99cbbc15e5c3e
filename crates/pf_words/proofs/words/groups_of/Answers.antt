use Rattle.std.proofs.Common.{sym, ◌∙◌}
use Rattle.pf_words.proofs.Numbers.{goes_on, fails, last_fails, is_done}
use Rattle.pf_words.proofs.words.groups_of.Goals as goal

pub loop-k-preserved : goal.loop-k-preserved
loop-k-preserved c = rw (c.in_ok-push.ensures.items, c.cut_at.ensures.back) (goes_on _ _ _ _ _ _ c.in-Some.ensures c.cut_at.ensures.front (sym c.number_of.ensures ∙ c.in-Some-number_of.is) c.loop-k.invariant)

pub returns : goal.returns
returns c =
    let none = rw c.in_default.is at c.memchr.ensures in
    rw (c.in_ok-new.ensures.ids, c.in_ok-push-2.ensures.items) (is_done _ _ _ _ _ none (sym c.number_of-2.ensures ∙ c.in-Some-number_of-2.is) c.loop-k.invariant)

pub returns-in_default-number_of : goal.returns-in_default-number_of
returns-in_default-number_of c = fails _ _ _ _ _ _ c.in-Some.ensures c.cut_at.ensures.front (sym c.number_of.ensures ∙ c.in_default-number_of.is) c.loop-k.invariant

pub returns-in_default-number_of-2 : goal.returns-in_default-number_of-2
returns-in_default-number_of-2 c =
    let none = rw c.in_default.is at c.memchr.ensures in
    last_fails _ _ _ _ none (sym c.number_of-2.ensures ∙ c.in_default-number_of-2.is) c.loop-k.invariant
