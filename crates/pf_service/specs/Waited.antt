-- What a call that waits leaves behind.

use Rattle.std.specs.Prelude.{◌≡◌, ◌≢◌, ℕ, List, [], ◌∷◌, ◌++◌, map, Option, Some, None, All}
use Rattle.pf_machine.specs.Machine.{pid_of}
use Rattle.pf_base.specs.declared.step.Step.{Step}
use Rattle.pf_base.specs.declared.step.Step.TheVariants.{Read, Write, Tee, Splice, Open, Resume}
use Rattle.pf_base.specs.declared.step.Reply.{Reply}
use Rattle.pf_base.specs.declared.step.Reply.TheVariants.{Parked}
use Rattle.pf_service.specs.declared.event.Event.{Event}
use Rattle.pf_service.specs.declared.receipt.Receipt.{Receipt}
use Rattle.pf_service.specs.Seats.{OneSeat, Gains, event_at}

-- the process that makes a step; nobody makes a Spawn, and no pid is 0
abbrev pub maker : Option ℕ → ℕ
maker None = 0
maker (Some pid) = pid

-- the step that tries the call of a step again. It is its own again, and a Spawn never waits
abbrev pub resume_of : Step → Step
resume_of step = Resume (maker (pid_of step))

-- the process of a step of a kind that may be told Parked; of another kind 0. Where one is told Parked, it made the step
-- (proofs/WaitingLaws, waits_at)
abbrev pub waiter : Step → ℕ
waiter (Read pid fd n) = pid
waiter (Write pid fd payload) = pid
waiter (Tee pid source sink n nonblock) = pid
waiter (Splice pid source sink n nonblock) = pid
waiter (Open pid path flags) = pid
waiter (Resume pid) = pid
waiter _ = 0

-- first this step; then, as long as the reply is Parked, Resumes of its process; and of each something is said
abbrev pub Tries : (Step → ℕ → Reply → Type 0) → Step → List Event → Type 0
Tries Says step [] = Unit {0}
Tries Says step (e ∷ es) = (e.step ≡ step) × Says step e.place e.reply × (es ≢ [] → e.reply ≡ Parked) × Tries Says (resume_of step) es

-- the last reply isn't Parked
abbrev pub IsAnswered : List Event → Type 0
IsAnswered [] = ⊥
IsAnswered (e ∷ []) = e.reply ≢ Parked
IsAnswered (e ∷ (f ∷ es)) = IsAnswered (f ∷ es)

-- each reply is Parked
abbrev pub AreParked : List Event → Type 0
AreParked es = All (λ e. e.reply ≡ Parked) es

abbrev pub receipt_of : ℕ → Event → Receipt
receipt_of ns e = record { ns = ns; place = e.place; reply = e.reply }

-- the seat has these events more, and there is a receipt for each, in their order
pub record IsWaited (Says : Step → ℕ → Reply → Type 0) (step : Step) (old new : OneSeat) (before after : List Receipt) (es : List Event) : Type 0 where
  pub gains : Gains old new es
  pub receipts : after ≡ before ++ map (receipt_of old.ns) es
  pub tries : Tries Says step es

-- one of them
pub record IsTried (Says : Step → ℕ → Reply → Type 0) (step : Step) (old new : OneSeat) (before after : List Receipt) (place : ℕ) (reply : Reply) : Type 0 where
  pub gains : Gains old new (event_at place step reply ∷ [])
  pub receipts : after ≡ before ++ receipt_of old.ns (event_at place step reply) ∷ []
  pub says : Says step place reply
