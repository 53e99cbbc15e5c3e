use Rattle.std.proofs.Common.{rules, inl, ◌∙◌, arith}
use Rattle.pf_script.proofs.Streams.{writes_more}
use Rattle.pf_script.proofs.port.write_out.Goals as goal

pub loop-rest-preserved : goal.loop-rest-preserved
loop-rest-preserved g c = (
  rw c.after-rest.ensures.rest
      (writes_more (g.W.Sink.output c.args.writer.now).contents (g.W.Sink.output c.loop-rest.writer).contents (g.W.Sink.output c.write.new.self).contents _ _ _ _ c.loop-rest.invariant.0.1 c.in-Ok.ensures.bytes c.loop-rest.invariant.0.2),
  c.in-Ok.ensures.refusals.1 (inl (omega arith)) ∙ c.loop-rest.invariant.1,
)

pub returns-in_default-clause-cut : goal.returns-in_default-clause-cut
returns-in_default-clause-cut g c = search rules steps 500000
