-- Where nothing was ever written nothing stands, and else the place is written anew.
use Rattle.std.proofs.Common.{◌<◌, length, None, arith, length-set}
use Rattle.pf_fds.proofs.Takes.{unwritten_clear, written_set, written_changed}
use Rattle.pf_fds.proofs.places.Places.take.Goals as goal

pub returns-then-n-len-clause-places : goal.returns-then-n-len-clause-places
returns-then-n-len-clause-places g c =
    rw (← c.self.view_is) (unwritten_clear c.self.inside.values.items c.self.invariant.few c.args.n (omega (arith, c.if-n-len.true, c.len.ensures)))

pub invariant_of-self : goal.invariant_of-self
invariant_of-self g c =
    let items = c.self.inside.values.items in
    let written : c.args.n < length items = omega (arith, c.if-n-len.false, c.len.ensures) in
    rw c.take.ensures.after
    (written_changed _ _ items _ _ _ c.args.n None c.self.invariant (omega (arith, written, c.self.invariant.few)) (written_set items c.self.invariant.few c.args.n None written)
    (omega (arith, length-set items c.args.n None, c.self.invariant.few)) c.self.invariant.room c.unmark.ensures.unmarked c.unmark.ensures.others)

pub returns-clause-places : goal.returns-clause-places
returns-clause-places g c =
    let items = c.self.inside.values.items in
    rw (c.take.ensures.after, ← c.self.view_is) (written_set items c.self.invariant.few c.args.n None (omega (arith, c.if-n-len.false, c.len.ensures)))
