use Rattle.std.proofs.Common.{[], ◌++◌, refl, subst}
use Rattle.std.specs.Prelude.{codes}
use Rattle.pf_script.specs.Puts.{Puts}
use Rattle.pf_script.proofs.PrinterPut.{put_more, nothing}
use Rattle.pf_script.proofs.Texts.{name_on, names_end}
use Rattle.pf_script.proofs.text.put_names.Goals as goal

pub loop-k-init : goal.loop-k-init
loop-k-init g c = ([], nothing _ _, refl)

pub loop-k-preserved : goal.loop-k-preserved
loop-k-preserved g c = (
  (c.loop-k.invariant.0 ++ codes " ") ++ c.cut_at.result.0.now,
  put_more (put_more c.loop-k.invariant.1 c.put.ensures) c.put-in-Some.ensures,
  rw c.cut_at.ensures.back (name_on _ _ _ _ _ c.in-Some.ensures c.cut_at.ensures.front c.loop-k.invariant.2),
)

pub returns : goal.returns
returns g c = subst (λ t. Puts (g.W.Sink.output c.args.writer.now) c.args.out.now (g.W.Sink.output c.loop-k.writer) c.loop-k.out t) (names_end _ _ _ (rw c.in_default.is at c.memchr.ensures) c.loop-k.invariant.2) c.loop-k.invariant.1
