use Rattle.pf_c.proofs.Stepped.{stepped}
use Rattle.pf_c.proofs.told.answer_of.Goals as goal

pub returns : goal.returns
returns c fits =
    let answered = rw c.hub.ensures.value at (c.step_in.ensures fits) in
    rw (← c.h.view_is)
    (stepped c.h.inside.is_open c.h.inside.place.held c.step_in.new.hub c.args.ns c.args.step.now fits c.step_in.result
    c.if-not-h.false answered)
