-- What the hub does by number is what happens by name.
use Rattle.std.proofs.Common.{◌∙◌}
use Rattle.pf_base.specs.declared.admission.EventAnswer.TheVariants as told
use Rattle.pf_hub.specs.Tenants.{house_of}
use Rattle.pf_hub.proofs.HouseLemmas.{retired_happens, kept_happens}
use Rattle.pf_play.proofs.NumberLaws.{retire_gone, retire_follows}
use Rattle.pf_play.proofs.TreeLaws.{gone_theirs}
use Rattle.pf_play.proofs.engine.retire.Goals as goal

pub returns-in_default-clause-follows : goal.returns-in_default-clause-follows
returns-in_default-clause-follows g c =
    λ names named place is has. retire_gone names (house_of c.args.hub.now.world) named is place (has ∙ c.in_default.is)

pub returns-in-Ok-clause-follows : goal.returns-in-Ok-clause-follows
returns-in-Ok-clause-follows g c =
    let made = c.in-Ok.ensures.retired in
    λ names named place is has.
    retire_follows names (house_of c.args.hub.now.world) named is place c.in-Some.ns (has ∙ c.in-Some.is)
    (house_of c.retire.new.self.world) told.Retired
    (retired_happens c.args.hub.now.world c.retire.new.self.world c.in-Some.ns made.0 made.1.held made.1.world)

pub returns-in-Err-clause-follows : goal.returns-in-Err-clause-follows
returns-in-Err-clause-follows g c =
    let kept = c.in-Err.ensures.retired in
    λ names named place is has.
    retire_follows names (house_of c.args.hub.now.world) named is place c.in-Some.ns (has ∙ c.in-Some.is)
    (house_of c.retire.new.self.world) (told.NotRetired c.in-Err.fault)
    (rw kept.0 (kept_happens c.args.hub.now.world c.in-Some.ns c.in-Err.fault kept.1))

pub returns-in-Ok-clause-trees : goal.returns-in-Ok-clause-trees
returns-in-Ok-clause-trees g c =
    λ trees names were.
    gone_theirs trees names c.args.hub.now c.retire.new.self c.in-Some.ns c.in-Ok.ensures.retired.1 were

pub returns-in-Err-clause-trees : goal.returns-in-Err-clause-trees
returns-in-Err-clause-trees g c = λ trees names were. rw c.in-Err.ensures.retired.0 were
