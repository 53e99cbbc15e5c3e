-- Where each line is a step no name is given later.
use Rattle.std.proofs.Common.{ℕ, ap, sym, ◌∙◌}
use Rattle.std.specs.Prelude.{not}
use Rattle.std.specs.List.{list_any}
use Rattle.pf_script.specs.declared.line.Line.{Line}
use Rattle.pf_play.specs.Played.{is_step}
use Rattle.pf_play.proofs.StayLaws.{none_come}
use Rattle.pf_play.proofs.engine.comes_and_goes.Goals as goal

pub returns-clause-whole : goal.returns-clause-whole
returns-clause-whole c none =
    none_come c.args.script.now.opening _ c.args.script.now.steps
    (ap (list_any (λ (e : ℕ × Line). not (is_step e.1))) (sym c.steps-lines.ensures.steps) ∙ sym c.are_others.ensures ∙ none)
    (rw c.steps-lines.ensures.steps at c.steps-lines.ensures.known)
