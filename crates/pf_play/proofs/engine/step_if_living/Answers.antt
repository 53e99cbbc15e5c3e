-- What the hub does by number is what happens by name.
use Rattle.std.proofs.Common.{sym, ◌∙◌}
use Rattle.pf_base.specs.declared.admission.EventAnswer.TheVariants as told
use Rattle.pf_hub.specs.Tenants.{house_of}
use Rattle.pf_hub.proofs.HouseLemmas.{stepped_happens, gone_happens}
use Rattle.pf_play.proofs.NumberLaws.{step_gone, step_follows}
use Rattle.pf_play.proofs.TreeLaws.{stay_theirs}
use Rattle.pf_play.proofs.engine.step_if_living.Goals as goal
use Rattle.pf_play.proofs.engine.step_if_living.Goals.{in_default-via-in-Some+else-lives, in_default-via-in_default}

pub returns-in-Some-clause-follows : goal.returns-in-Some-clause-follows
returns-in-Some-clause-follows g c =
    let old = c.args.hub.now.world in
    let new = c.step.new.self.world in
    let made = c.step.ensures in
    λ names named place is has.
    rw c.new.ensures
    (step_follows names (house_of old) named is place c.in-Some.ns (has ∙ c.in-Some.is) (house_of new)
    (told.Answer c.step.result) c.args.step.now
    (stepped_happens old new c.in-Some.ns c.args.step.now c.step.result (sym c.lives.ensures.living ∙ c.if-lives.true)
    (record {
      number = made.number;
      lives = made.lives;
      frames = made.frames;
      limits = made.limits;
      answers = made.answers;
      others = made.others;
      succeeds = made.succeeds;
      covered = made.covered;
    })))

pub returns-in_default-clause-follows : goal.returns-in_default-clause-follows
returns-in_default-clause-follows g c = elim c.in_default.branch [
  | in_default-via-in-Some+else-lives w ↦
      λ names named place is has.
      rw c.new-in_default.ensures (step_follows names (house_of c.args.hub.now.world) named is place w.in-Some.ns (has ∙ w.in-Some.is)
      (house_of c.args.hub.now.world) told.Gone c.args.step.now
      (gone_happens c.args.hub.now.world w.in-Some.ns c.args.step.now (sym w.lives.ensures.living ∙ w.if-lives.false)))
  | in_default-via-in_default w ↦
      λ names named place is has.
      rw c.new-in_default.ensures
      (step_gone names (house_of c.args.hub.now.world) named is place c.args.step.now (has ∙ w.in_default.is))
]

pub returns-in-Some-clause-trees : goal.returns-in-Some-clause-trees
returns-in-Some-clause-trees g c =
    λ trees names were.
    stay_theirs trees names c.args.hub.now c.step.new.self c.step.ensures.allocators c.step.ensures.number were
