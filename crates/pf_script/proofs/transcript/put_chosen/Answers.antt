use Rattle.std.proofs.Common.{[], ◌++◌, ◌+◌, get_or, refl, rules, subst, sym, ◌∙◌}
use Rattle.pf_script.specs.Puts.{Puts}
use Rattle.pf_script.specs.Text.{line_text}
use Rattle.pf_script.specs.Answers.{answers_in}
use Rattle.pf_base.specs.declared.admission.EventAnswer.TheVariants.{Gone}
use Rattle.pf_script.proofs.PrinterPut.{put_more, failed_on, nothing}
use Rattle.pf_script.proofs.Texts.{chosen_on, chosen_end}
use Rattle.pf_script.proofs.transcript.put_chosen.Goals as goal

pub loop-i-init : goal.loop-i-init
loop-i-init g c = ([], nothing _ _, refl, search rules)

pub returns-then-has_failed : goal.returns-then-has_failed
returns-then-has_failed g c = subst (λ t. Puts (g.W.Sink.output c.args.writer.now) c.args.out.now (g.W.Sink.output c.loop-i.writer) c.loop-i.out t) c.loop-i.invariant.2 (failed_on _ (sym c.has_failed.ensures ∙ c.if-has_failed.true) c.loop-i.invariant.1)

pub loop-i-preserved : goal.loop-i-preserved
loop-i-preserved g c = (
  c.loop-i.invariant.0 ++ line_text (c.loop-i.i + 1) (get_or (answers_in c.args.answers) (get_or c.args.places.now c.loop-i.i 0) Gone),
  put_more c.loop-i.invariant.1 (rw c.loop-i.invariant.3 at c.put_line.ensures.put),
  chosen_on _ _ _ _ _ _ c.loop-i-test.true refl c.loop-i.invariant.2,
  rw (c.put_line.ensures.number, c.loop-i.invariant.3) refl,
)

pub returns : goal.returns
returns g c = subst (λ t. Puts (g.W.Sink.output c.args.writer.now) c.args.out.now (g.W.Sink.output c.loop-i.writer) c.loop-i.out t) (chosen_end _ _ _ _ _ c.loop-i-test.false c.loop-i.invariant.2) c.loop-i.invariant.1
