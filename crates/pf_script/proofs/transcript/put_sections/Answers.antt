use Rattle.std.proofs.Common.{◌<◌, ◌≤◌, [], ◌++◌, length, refl, subst, sym, ◌∙◌, arith}
use Rattle.pf_script.specs.Puts.{Puts}
use Rattle.pf_script.specs.Text.{section_at, answers_of}
use Rattle.pf_script.specs.Answers.{answers_in}
use Rattle.pf_script.proofs.PrinterPut.{put_more, failed_on, nothing}
use Rattle.pf_script.proofs.Texts.{section_on, sections_end}
use Rattle.pf_script.proofs.transcript.put_sections.Goals as goal

pub loop-ns-init : goal.loop-ns-init
loop-ns-init g c = ([], nothing _ _, refl)

pub returns-then-has_failed : goal.returns-then-has_failed
returns-then-has_failed g c = subst (λ t. Puts (g.W.Sink.output c.args.writer.now) c.args.out.now (g.W.Sink.output c.loop-ns.writer) c.loop-ns.out t) c.loop-ns.invariant.2 (failed_on _ (sym c.has_failed.ensures ∙ c.if-has_failed.true) c.loop-ns.invariant.1)

pub loop-ns-preserved : goal.loop-ns-preserved
loop-ns-preserved g c =
    let high : c.loop-ns.ns < length c.args.script.now.spaces = omega arith in (
      c.loop-ns.invariant.0 ++ section_at c.args.script.now (answers_of c.args.script.now.steps (answers_in c.args.answers) c.loop-ns.ns) c.loop-ns.ns,
      put_more {y = section_at c.args.script.now (answers_of c.args.script.now.steps (answers_in c.args.answers) c.loop-ns.ns) c.loop-ns.ns} c.loop-ns.invariant.1 c.put_section.ensures,
      section_on _ _ _ c.args.script.now (answers_in c.args.answers) high c.loop-ns.invariant.2,
    )

pub returns : goal.returns
returns g c =
    let past : length c.args.script.now.spaces ≤ c.loop-ns.ns = omega arith in
    subst (λ t. Puts (g.W.Sink.output c.args.writer.now) c.args.out.now (g.W.Sink.output c.loop-ns.writer) c.loop-ns.out t) (sections_end _ _ _ _ _ _ past c.loop-ns.invariant.2) c.loop-ns.invariant.1
