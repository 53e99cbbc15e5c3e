use Rattle.pf_words.proofs.CutLaws.{goes_on, ends}
use Rattle.pf_words.proofs.cut.cut_into.Goals as goal

pub loop-k-preserved : goal.loop-k-preserved
loop-k-preserved c = rw (c.in_ok-push.ensures.items, c.cut_at.ensures.back) (goes_on _ _ _ _ _ _ c.in-Some.ensures c.cut_at.ensures.front c.loop-k.invariant)

pub returns : goal.returns
returns c =
    let none = rw c.in_default.is at c.find.ensures in
    rw c.in_ok-push-2.ensures.items (ends _ _ _ _ none c.loop-k.invariant)
