use Rattle.std.proofs.Common.{IsTrue, ◌≡◌, Bool, true, sym, ◌∙◌, subst}
use Rattle.pf_base.specs.declared.step.Step.{Step}
use Rattle.pf_base.specs.contracts.step.StepPartialEq.TheImpl.{ghosts}
use Rattle.pf_base.proofs.StepLaws.{sound, reflexive}
use Rattle.pf_base.proofs.step.Step.is_same.Goals as goal

pub returns : goal.returns
returns c =
    let is : c.eq.result ≡ ghosts.eq c.args.self.now c.args.other.now = c.eq.ensures in
    decides c.args.self.now c.args.other.now c.eq.result is
  where
    decides : (a b : Step) (r : Bool) → r ≡ ghosts.eq a b → (IsTrue r → a ≡ b) × (a ≡ b → IsTrue r)
    decides a b r is = (λ t. sound a b (sym is ∙ t), λ e. is ∙ subst (λ (s : Step). ghosts.eq a s ≡ true) e (reflexive a))
