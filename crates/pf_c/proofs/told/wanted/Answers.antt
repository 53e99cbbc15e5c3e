use Rattle.std.proofs.Common.{sym, ◌∙◌, refl, Some}
use Rattle.pf_base.specs.declared.step.Answer.TheVariants.{NoMemory}
use Rattle.pf_c.proofs.Stepped.{stepped}
use Rattle.pf_c.proofs.told.wanted.Goals as goal

pub returns-then-lives : goal.returns-then-lives
returns-then-lives c step fits needs =
    let living = sym c.lives.ensures.living ∙ c.if-lives.true in
    rw (← c.h.view_is)
    (stepped c.h.inside.is_open c.h.inside.place.held c.hub.result.now c.args.ns step fits (Some NoMemory)
    c.if-not-h.false
    (rw (← c.hub.ensures.value) (record { lived = living; needed = needs c.hub.result.now; same = refl })))
