use Rattle.std.proofs.Common.{◌<◌, ◌+◌, ◌^◌, arith, rules, get_or}
use Rattle.pf_fds.proofs.MarksLaws.{has_full, has_not_lowest, has_below_lowest}
use Rattle.pf_fds.proofs.marks.Marks.lowest.Goals as goal

not_full : (c : goal.After-trailing_ones) → get_or c.args.self.now.words c.words.w 0 + 1 < 2 ^ 64
not_full c =
    let fits : get_or c.args.self.now.words c.words.w 0 < 2 ^ 64 = search rules in
    omega arith

pub returns-then-word-clause-unmarked : goal.returns-then-word-clause-unmarked
returns-then-word-clause-unmarked c _ = rw c.trailing_ones.ensures (has_not_lowest _ c.words.w c.words.invariant (not_full c))

pub returns-then-word-clause-below : goal.returns-then-word-clause-below
returns-then-word-clause-below c k below = has_below_lowest _ c.words.w c.words.invariant (not_full c) k (rw c.trailing_ones.ensures at below)

pub returns-clause-below : goal.returns-clause-below
returns-clause-below c k below = has_full _ 4 k (λ j h. c.words.invariant j (omega arith)) below
