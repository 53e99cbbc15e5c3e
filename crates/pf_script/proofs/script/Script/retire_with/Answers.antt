use Rattle.std.proofs.Common.{refl}
use Rattle.pf_script.specs.declared.line.Line.TheVariants.{Retire}
use Rattle.pf_script.proofs.Soundness.{line_sound}
use Rattle.pf_script.proofs.script.Script.retire_with.Goals as goal

pub invariant_of-self-2 : goal.invariant_of-self-2
invariant_of-self-2 c =
    let within = rw (← c.self.view_is) at c.in-Some.ensures.within in
    rw c.in_ok-push.ensures.pushed (line_sound _ _ Retire c.self.invariant within refl)
