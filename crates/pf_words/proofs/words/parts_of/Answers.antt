use Rattle.std.proofs.Common.{ap}
use Rattle.pf_words.specs.Arguments.{or_cause}
use Rattle.pf_words.specs.declared.cause.Cause.TheVariants as causes
use Rattle.pf_words.proofs.Data.{no_star, one_star, more_stars}
use Rattle.pf_words.proofs.words.parts_of.Goals as goal

pub returns-in_default : goal.returns-in_default
returns-in_default c = rw (no_star c.args.word.now c.in_default.ensures) c.hex_of.ensures

pub returns-in-None : goal.returns-in-None
returns-in-None c = rw (one_star c.args.word.now c.cut_at.result.0.now c.cut_at.result.1.now c.in-Some.k c.in-Some.ensures c.cut_at.ensures.front c.cut_at.ensures.back c.in-None.ensures) c.repeated_of.ensures

pub returns-in-Some-memchr : goal.returns-in-Some-memchr
returns-in-Some-memchr c = ap (λ r. or_cause r causes.BadData) (more_stars c.args.word.now c.cut_at.result.1.now c.in-Some.k c.in-Some-memchr.field-0 c.in-Some.ensures c.cut_at.ensures.back c.in-Some-memchr.ensures)
