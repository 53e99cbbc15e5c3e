use Rattle.std.proofs.Common.{◌<◌, ◌≤◌, [], ◌++◌, ◌+◌, length, get_or, refl, rules, subst, sym, ◌∙◌, arith}
use Rattle.pf_script.specs.Puts.{Puts}
use Rattle.pf_script.specs.Text.{line_text}
use Rattle.pf_script.specs.Answers.{answers_in}
use Rattle.pf_base.specs.declared.admission.EventAnswer.TheVariants.{Gone}
use Rattle.pf_script.proofs.PrinterPut.{put_more, failed_on, nothing}
use Rattle.pf_script.proofs.Texts.{line_on, lines_end}
use Rattle.pf_script.proofs.transcript.put_lines.Goals as goal

pub loop-i-init : goal.loop-i-init
loop-i-init g c = ([], nothing _ _, refl, search rules)

pub returns-then-has_failed : goal.returns-then-has_failed
returns-then-has_failed g c = subst (λ t. Puts (g.W.Sink.output c.args.writer.now) c.args.out.now (g.W.Sink.output c.loop-i.writer) c.loop-i.out t) c.loop-i.invariant.2 (failed_on _ (sym c.has_failed.ensures ∙ c.if-has_failed.true) c.loop-i.invariant.1)

pub loop-i-preserved : goal.loop-i-preserved
loop-i-preserved g c =
    let high : c.loop-i.i < length (answers_in c.args.answers) = omega arith in (
      c.loop-i.invariant.0 ++ line_text (c.loop-i.i + 1) (get_or (answers_in c.args.answers) c.loop-i.i Gone),
      put_more c.loop-i.invariant.1 (rw c.loop-i.invariant.3 at c.put_line.ensures.put),
      line_on _ _ _ _ high c.loop-i.invariant.2,
      rw (c.put_line.ensures.number, c.loop-i.invariant.3) refl,
    )

pub returns : goal.returns
returns g c =
    let past : length (answers_in c.args.answers) ≤ c.loop-i.i = omega arith in
    subst (λ t. Puts (g.W.Sink.output c.args.writer.now) c.args.out.now (g.W.Sink.output c.loop-i.writer) c.loop-i.out t) (lines_end _ _ _ _ past c.loop-i.invariant.2) c.loop-i.invariant.1
