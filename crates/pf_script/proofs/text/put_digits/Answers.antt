use Rattle.std.proofs.Common.{[], ◌++◌, refl, subst}
use Rattle.hex.specs.Hex.{encode_lower}
use Rattle.pf_script.specs.Puts.{Puts}
use Rattle.pf_script.proofs.PrinterPut.{put_more, nothing}
use Rattle.pf_script.proofs.Texts.{digits_on}
use Rattle.pf_script.proofs.text.put_digits.Goals as goal

pub loop-rest-init : goal.loop-rest-init
loop-rest-init g c = ([], nothing _ _, refl)

pub loop-rest-preserved : goal.loop-rest-preserved
loop-rest-preserved g c = (
  c.loop-rest.invariant.0 ++ encode_lower c.split_at.result.0.now,
  put_more c.loop-rest.invariant.1 c.put_piece.ensures,
  rw (c.split_at.ensures.front, c.split_at.ensures.back) (digits_on _ _ _ 64 c.loop-rest.invariant.2),
)

pub returns : goal.returns
returns g c = subst (λ t. Puts (g.W.Sink.output c.args.writer.now) c.args.out.now (g.W.Sink.output c.put_piece-2.new.writer) c.put_piece-2.new.out t) c.loop-rest.invariant.2 (put_more c.loop-rest.invariant.1 c.put_piece-2.ensures)
