-- The bits of the word from the number on: none is 1 where what is left of the word is 0, and else the lowest 1 is found.
use Rattle.std.proofs.Common.{◌<◌, ◌^◌, ◌/◌, arith, rules, get_or, inl, inr}
use Rattle.std.proofs.lemmas.Bool.{cases_lt}
use Rattle.pf_fds.proofs.MarksLaws.{rest, has_none_left, next_within, has_next, has_none_before}
use Rattle.pf_fds.proofs.marks.Marks.next.Goals.{Then-rest-ne0}
use Rattle.pf_fds.proofs.marks.Marks.next.Goals as goal

fits : (c : Then-rest-ne0) → get_or c.args.self.now.words (c.loop-first.first / 64) 0 < 2 ^ 64
fits c = search rules

some : (c : Then-rest-ne0) → 0 < rest c.args.self.now.words c.loop-first.first
some c = omega (arith, c.if-rest-ne0.true)

pub returns-then-rest-ne0-clause-within : goal.returns-then-rest-ne0-clause-within
returns-then-rest-ne0-clause-within c = omega (arith, next_within c.args.self.now.words c.loop-first.first (fits c) (some c), c.loop-first-test.true)

pub returns-then-rest-ne0-clause-marked : goal.returns-then-rest-ne0-clause-marked
returns-then-rest-ne0-clause-marked c l = has_next c.args.self.now.words c.loop-first.first (fits c) (some c)

pub returns-then-rest-ne0-clause-between : goal.returns-then-rest-ne0-clause-between
returns-then-rest-ne0-clause-between c k above below =
    elim (cases_lt k c.loop-first.first) [
      | inl before ↦ c.loop-first.invariant.none k above before
      | inr from ↦ has_none_before c.args.self.now.words c.loop-first.first (fits c) (some c) k from below
    ]

pub loop-first-preserved : goal.loop-first-preserved
loop-first-preserved c = record {
  on = omega (arith, c.loop-first.invariant.on);
  none = λ k above below. elim (cases_lt k c.loop-first.first) [
    | inl before ↦ c.loop-first.invariant.none k above before
    | inr from ↦ has_none_left c.args.self.now.words c.loop-first.first c.if-rest-ne0.false k from below
  ];
}
