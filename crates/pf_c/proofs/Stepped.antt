-- An open handle's hub is stepped, and the handle stays open.

use Rattle.std.proofs.Common.{◌≡◌, ℕ, Bool, true, false, refl}
use Rattle.std.specs.Prelude.{Option, None}
use Rattle.pf_base.specs.declared.step.Answer.{Answer}
use Rattle.pf_base.specs.declared.step.Step.{Step}
use Rattle.pf_c.specs.Handle.{hub_at}
use Rattle.pf_c.specs.Rows.{Held}
use Rattle.pf_c.specs.Told.{Answered, IsAnswered}

-- what its hub answers, it answers
pub stepped : (is_open : Bool) (old new : Held) (n : ℕ) (step : Step) (fits : Bool) (answer : Option Answer)
    → is_open ≡ true → Answered old new n step fits answer
    → IsAnswered (hub_at is_open old) (hub_at is_open new) n step fits answer
stepped true old new n step fits answer is answered = answered
stepped false old new n step fits answer is answered = cc

-- and a shut one has none
pub shut : (is_open : Bool) (held : Held) (n : ℕ) (step : Step) (fits : Bool) → is_open ≡ false
    → IsAnswered (hub_at is_open held) (hub_at is_open held) n step fits None
shut true held n step fits is = absurd (cc)
shut false held n step fits is = refl
