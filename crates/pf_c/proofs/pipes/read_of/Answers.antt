use Rattle.std.proofs.Common.{length}
use Rattle.pf_base.specs.declared.step.Step.TheVariants as steps
use Rattle.pf_c.specs.Read.{answer_of_read}
use Rattle.pf_c.proofs.Stepped.{stepped}
use Rattle.pf_c.proofs.pipes.read_of.Goals as goal

pub returns-clause-answered : goal.returns-clause-answered
returns-clause-answered c fits =
    let answered = rw c.hub.ensures.value at (c.read_in.ensures.answered fits) in
    rw (← c.h.view_is)
    (stepped c.h.inside.is_open c.h.inside.place.held c.read_in.new.hub c.args.ns
    (steps.Read c.args.pid c.args.fd (length c.args.into.now)) fits (answer_of_read c.read_in.new.into c.read_in.result) c.if-not-h.false answered)
