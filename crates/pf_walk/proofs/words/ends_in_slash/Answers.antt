use Rattle.std.proofs.Common.{sym, ap, ◌∙◌}
use Rattle.pf_machine.specs.Paths.{ends_in_slash}
use Rattle.pf_walk.proofs.Cuts.{ends-append}
use Rattle.pf_walk.proofs.words.ends_in_slash.Goals as goal

pub returns-in-Some : goal.returns-in-Some
returns-in-Some c = sym (ap ends_in_slash c.in-Some.ensures.cases.0 ∙ ends-append c.in-Some.field-0-1.now c.in-Some.last.now)
