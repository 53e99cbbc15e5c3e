use Rattle.std.proofs.Common.{◌∙◌, not, nat_eq, sym, arith}
use Rattle.std.proofs.lemmas.List.{append-nil}
use Rattle.std.proofs.lemmas.List.Sums.{prefix_len-le-length}
use Rattle.pf_walk.specs.Walks.{named}
use Rattle.pf_walk.proofs.LongNames.{long_here, long_behind}
use Rattle.pf_walk.proofs.Plain.{cut, cut_on, cut_last}
use Rattle.pf_walk.proofs.words.has_long_name.Goals as goal

pub split_at-requires : goal.split_at-requires
split_at-requires c =
    omega (arith, c.before_slash.ensures, prefix_len-le-length (λ b. not (nat_eq b 47)) c.loop-behind.rest.now)

pub returns-then-name-gt-MAX_NAME : goal.returns-then-name-gt-MAX_NAME
returns-then-name-gt-MAX_NAME c =
    let w =
    cut c.loop-behind.rest.now c.split_at.result.0.now c.split_at.result.1.now c.before_slash.result c.before_slash.ensures
    c.split_at.ensures.front c.split_at.ensures.back in
    sym (sym c.loop-behind.invariant ∙ long_here 255 c.loop-behind.rest.now c.split_at.result.0.now w.0 w.1 (omega (arith, c.if-name-gt-MAX_NAME.true)))

pub returns-in_default : goal.returns-in_default
returns-in_default c =
    let last =
    cut_last c.loop-behind.rest.now c.split_at.result.0.now c.split_at.result.1.now c.before_slash.result
    c.before_slash.ensures c.split_at.ensures.front c.split_at.ensures.back c.in_default.ensures.cases in
    sym (sym c.loop-behind.invariant ∙ long_behind 255 c.loop-behind.rest.now c.split_at.result.0.now _
    (last ∙ sym (append-nil (named c.split_at.result.0.now)))
    (omega (arith, c.if-name-gt-MAX_NAME.false)))

pub loop-behind-preserved : goal.loop-behind-preserved
loop-behind-preserved c =
    sym (long_behind 255 c.loop-behind.rest.now c.split_at.result.0.now _
    (cut_on c.loop-behind.rest.now c.split_at.result.0.now c.split_at.result.1.now c.before_slash.result
    c.before_slash.ensures c.split_at.ensures.front c.split_at.ensures.back c.in-Some.field-0-0.now c.in-Some.after.now
    c.in-Some.ensures.cases.0) (omega (arith, c.if-name-gt-MAX_NAME.false)))
    ∙ c.loop-behind.invariant
