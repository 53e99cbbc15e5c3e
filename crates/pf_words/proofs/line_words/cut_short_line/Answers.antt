use Rattle.std.proofs.Common.{◌≢◌, ◌/◌, ◌^◌, ◌+◌, length, not, ap, sym, ◌∙◌, arith}
use Rattle.std.proofs.lemmas.Bool.{eqb-true, eqb-false}
use Rattle.std.specs.Int.Count.{count_trailing_zeros}
use Rattle.pf_words.specs.Marks.{marks}
use Rattle.pf_words.proofs.CutLaws.{goes_on, ends}
use Rattle.pf_words.proofs.MarkLaws.{first_mark, no_mark, shifted, word_on, none_first, none_last, some_last}
use Rattle.pf_words.proofs.line_words.cut_short_line.Goals as goal

pub returns-then-k-eq0-clause-full : goal.returns-then-k-eq0-clause-full
returns-then-k-eq0-clause-full c =
    let first = first_mark 32 _ c.loop-spaces.rest.now (omega (arith, c.loop-spaces.invariant.short))
    (omega (arith, c.loop-spaces.invariant.marked, c.loop-spaces-test.true))
    (ap (count_trailing_zeros 64) c.loop-spaces.invariant.marked) in
    ap not (sym (none_first c.loop-spaces.rest.now _ first c.if-k-eq0.true) ∙ c.loop-spaces.invariant.full)

pub cut_at-requires : goal.cut_at-requires
cut_at-requires c =
    let first = first_mark 32 _ c.loop-spaces.rest.now (omega (arith, c.loop-spaces.invariant.short))
    (omega (arith, c.loop-spaces.invariant.marked, c.loop-spaces-test.true))
    (ap (count_trailing_zeros 64) c.loop-spaces.invariant.marked) in
    first.0.high

pub overflow_shr-spaces : goal.overflow_shr-spaces
overflow_shr-spaces c =
    let first = first_mark 32 _ c.loop-spaces.rest.now (omega (arith, c.loop-spaces.invariant.short))
    (omega (arith, c.loop-spaces.invariant.marked, c.loop-spaces-test.true))
    (ap (count_trailing_zeros 64) c.loop-spaces.invariant.marked) in
    omega (arith, first.0.high, c.loop-spaces.invariant.short)

pub loop-spaces-preserved : goal.loop-spaces-preserved
loop-spaces-preserved c =
    let rest = c.loop-spaces.rest.now in
    let k = count_trailing_zeros 64 c.loop-spaces.spaces in
    let first = first_mark 32 _ rest (omega (arith, c.loop-spaces.invariant.short))
    (omega (arith, c.loop-spaces.invariant.marked, c.loop-spaces-test.true))
    (ap (count_trailing_zeros 64) c.loop-spaces.invariant.marked) in
    record {
      short = omega (arith, c.cut_at.ensures.shorter, c.loop-spaces.invariant.short);
      marked = ap (λ n. n / 2 ^ (k + 1)) c.loop-spaces.invariant.marked ∙ shifted 32 (k + 1) rest
          ∙ ap (marks 32) (sym c.cut_at.ensures.back);
      cut = rw (c.in_ok-push.ensures.items, c.cut_at.ensures.back)
          (goes_on 32 _ _ rest _ _ first c.cut_at.ensures.front c.loop-spaces.invariant.cut);
      full = rw c.cut_at.ensures.back
          (word_on rest _ first (omega (arith, c.if-k-eq0.false)) ∙ c.loop-spaces.invariant.full);
    }

pub returns-then-is_empty-clause-full : goal.returns-then-is_empty-clause-full
returns-then-is_empty-clause-full c =
    let none = no_mark 32 c.loop-spaces.rest.now
    (omega (arith, c.loop-spaces.invariant.marked, c.loop-spaces-test.false)) in
    let empty = eqb-true _ _ (sym c.is_empty.ensures ∙ c.if-is_empty.true) in
    ap not (sym (none_last c.loop-spaces.rest.now none empty) ∙ c.loop-spaces.invariant.full)

pub returns-clause-words : goal.returns-clause-words
returns-clause-words c =
    let none = no_mark 32 c.loop-spaces.rest.now
    (omega (arith, c.loop-spaces.invariant.marked, c.loop-spaces-test.false)) in
    λ _. rw c.in_ok-push-2.ensures.items (ends 32 _ _ _ none c.loop-spaces.invariant.cut)

pub returns-clause-full : goal.returns-clause-full
returns-clause-full c =
    let none = no_mark 32 c.loop-spaces.rest.now
    (omega (arith, c.loop-spaces.invariant.marked, c.loop-spaces-test.false)) in
    let some : length c.loop-spaces.rest.now ≢ 0 = eqb-false _ _ (sym c.is_empty.ensures ∙ c.if-is_empty.false) in
    ap not (sym (some_last c.loop-spaces.rest.now none (omega arith)) ∙ c.loop-spaces.invariant.full)
