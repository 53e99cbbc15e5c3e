use Rattle.std.proofs.Common.{rules, ◌∙◌, not, arith, nat_eq}
use Rattle.std.proofs.lemmas.List.Sums.{prefix_len-le-length}
use Rattle.pf_walk.proofs.SlashLaws.{goes_on, ends, has_room}
use Rattle.pf_walk.proofs.words.components.Goals as goal

pub split_at-requires : goal.split_at-requires
split_at-requires c = omega (arith, c.before_slash.ensures, prefix_len-le-length (λ b. not (nat_eq b 47)) c.loop-after.rest.now)

pub keep-requires : goal.keep-requires
keep-requires c = omega (arith, has_room c.loop-after.names.items c.loop-after.rest.now c.split_at.result.0.now c.before_slash.result _ c.before_slash.ensures c.split_at.ensures.front c.loop-after.invariant.0, c.loop-after.invariant.1.0)

pub returns-in_default-clause-names : goal.returns-in_default-clause-names
returns-in_default-clause-names c = ends c.loop-after.names.items c.keep.new.names.items c.loop-after.rest.now c.split_at.result.0.now c.split_at.result.1.now c.before_slash.result _ c.before_slash.ensures c.split_at.ensures.front c.split_at.ensures.back c.keep.ensures.names c.loop-after.invariant.0 c.in_default.ensures.cases

pub loop-after-preserved : goal.loop-after-preserved
loop-after-preserved c = (goes_on c.loop-after.names.items c.keep.new.names.items c.loop-after.rest.now c.split_at.result.0.now c.split_at.result.1.now c.before_slash.result _ c.before_slash.ensures c.split_at.ensures.front c.split_at.ensures.back c.keep.ensures.names c.loop-after.invariant.0 c.in-Some.field-0-0.now c.in-Some.after.now c.in-Some.ensures.cases.0, (omega (arith, c.keep.ensures.room, c.loop-after.invariant.1.0), c.keep.ensures.room ∙ c.loop-after.invariant.1.1))

pub loop-after-init : goal.loop-after-init
loop-after-init c = search rules steps 100000
