use Rattle.std.proofs.Common.{arith}
use Rattle.pf_depot_trials.proofs.Pairs.{first_idle, second_idle, two_long}
use Rattle.pf_depot_trials.proofs.own.pair.Goals as goal

pub returns-clause-first : goal.returns-clause-first
returns-clause-first c =
    let last = rw c.unwrap-second.ensures at c.pop.ensures.items in
    let before = rw c.unwrap-first.ensures at c.pop-2.ensures.items in
    first_idle _ _ _ _ _ _ last before c.requires

pub returns-clause-second : goal.returns-clause-second
returns-clause-second c =
    let last = rw c.unwrap-second.ensures at c.pop.ensures.items in
    let before = rw c.unwrap-first.ensures at c.pop-2.ensures.items in
    second_idle _ _ _ _ _ _ last before c.requires

pub unwrap-second-requires : goal.unwrap-second-requires
unwrap-second-requires c = c.pop.ensures.variant.1 (omega (arith, two_long _ _ c.requires, c.args.loans.ok))

pub unwrap-first-requires : goal.unwrap-first-requires
unwrap-first-requires c =
    let one_less = rw c.unwrap-second.ensures at c.pop.ensures.cases in
    c.pop-2.ensures.variant.1 (omega (arith, two_long _ _ c.requires, c.args.loans.ok, one_less))
