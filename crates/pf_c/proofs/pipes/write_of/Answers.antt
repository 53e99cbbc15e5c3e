use Rattle.pf_base.specs.declared.step.Step.TheVariants as steps
use Rattle.pf_c.proofs.Stepped.{stepped}
use Rattle.pf_c.proofs.pipes.write_of.Goals as goal

pub returns : goal.returns
returns c fits =
    let answered = rw c.hub.ensures.value at (c.write_in.ensures fits) in
    rw (← c.h.view_is)
    (stepped c.h.inside.is_open c.h.inside.place.held c.write_in.new.hub c.args.ns
    (steps.Write c.args.pid c.args.fd c.args.bytes.now) fits c.write_in.result c.if-not-h.false answered)
