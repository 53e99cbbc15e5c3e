use Rattle.std.proofs.Common.{◌≡◌, refl, sym, subst, ◌∙◌, Some}
use Rattle.pf_base.specs.declared.step.Answer.{Answer}
use Rattle.pf_base.specs.declared.step.Answer.TheVariants as answers
use Rattle.pf_machine.specs.Events.{IsDone}
use Rattle.pf_machine.specs.Machine.{Answers}
use Rattle.pf_hub.specs.Tenants.{limits_at, state_at}
use Rattle.pf_c.specs.Told.{Answered}
use Rattle.pf_c.proofs.told.step_in.Goals as goal

pub returns : goal.returns
returns c fits = by c.step.result refl
  where
    by : (a : Answer) → c.step.result ≡ a
        → Answered c.args.hub.now c.step.new.self c.args.ns c.args.step.now fits (Some a)
    by (answers.Done reply) is = record {
      lived = sym c.lives.ensures.living ∙ c.if-not-lives.false;
      lives = c.step.ensures.lives;
      number = c.step.ensures.number;
      frames = c.step.ensures.frames;
      limits = c.step.ensures.limits;
      answers =
          subst (λ a. Answers (limits_at c.args.hub.now.world c.args.ns) a (state_at c.args.hub.now.world c.args.ns)
          c.args.step.now (state_at c.step.new.self.world c.args.ns)) is c.step.ensures.answers;
      others = c.step.ensures.others;
      allocators = c.step.ensures.allocators;
      covered = c.step.ensures.covered;
    }
    by answers.NoMemory is = record {
      lived = sym c.lives.ensures.living ∙ c.if-not-lives.false;
      needed = λ quiet. absurd (subst IsDone is (c.step.ensures.succeeds quiet));
      same = c.step.ensures.unchanged is;
    }
