-- A namespace with its frames on loan and its transcript.

use Rattle.std.specs.Prelude.{◌≡◌, ℕ, ◌++◌, List, [], ◌∷◌, Some, slice_get}
use Rattle.pf_base.specs.Limits.{Limits}
use Rattle.pf_machine.specs.Queue.{Segment}
use Rattle.pf_machine.specs.State.{State, opening}
use Rattle.pf_machine.specs.Machine.{step_of}
use Rattle.pf_machine.specs.Runs.{run_of}
use Rattle.pf_base.specs.declared.step.Step.{Step}
use Rattle.pf_base.specs.declared.step.Reply.{Reply}
use Rattle.pf_depot.specs.declared.loans.Loans.{Loans}
use Rattle.pf_depot.specs.Loans.{loans_live}
use Rattle.pf_space.specs.declared.placed.Placed.{Placed}
use Rattle.pf_tables.specs.Meaning.{Namespace, meaning}
use Rattle.pf_tables.specs.Owns.{Owns}
use Rattle.pf_service.specs.Transcripts.{OneTranscript, steps_in, replies_in}

-- what a contract sees: the limits; the lone machine's state that the namespace is in; how many frames it holds; what it
-- was asked and told; and the allocator whose memory its files stand in
pub record Log (Z : Type 0) : Type 0 where
  pub limits : Limits
  pub state : State Segment ℕ
  pub held : ℕ
  pub transcript : List (Step × Reply)
  pub allocator : Z

-- what a contract sees of a namespace, its loans and its transcript
abbrev pub log_of : {Z : Type 0} → Placed Z → Loans → OneTranscript → Log Z
log_of placed loans t = record {
  limits = t.limits;
  state = meaning (loans_live loans) placed.space.state;
  held = (loans_live loans).held;
  transcript = t.entries;
  allocator = placed.allocator;
}

-- the frames on loan are those that the namespace's rings name; the replies are the lone machine's on the steps, and the
-- namespace, over its frames, stands at that run's end
pub record IsLog (space : Namespace) (loans : Loans) (t : OneTranscript) : Type 0 where
  pub limits : space.limits ≡ t.limits
  pub owns : Owns (loans_live loans) space
  pub ran : run_of t.limits opening (steps_in t.entries)
      ≡ record { state = meaning (loans_live loans) space.state; replies = replies_in t.entries }

-- a namespace of these limits, beside this allocator, of which nothing was asked yet
abbrev pub new_log : {Z : Type 0} → Limits → Z → Log Z
new_log limits allocator = record { limits = limits; state = opening; held = 0; transcript = []; allocator = allocator }

-- for each of these limits, each beside its allocator: under the number that is its place a namespace of them, beside that
-- allocator, was put behind a lock, and nothing was asked of it yet
abbrev pub AreLocked : {Z : Type 0} → (ℕ → Log Z → Type 0) → List (Limits × Z) → Type 0
AreLocked {Z} Locked configs = (n : ℕ) (e : Limits × Z) → slice_get configs n ≡ Some e → Locked n (new_log e.0 e.1)

-- one event: the step is the lone machine's, and stands at the end of the transcript with its reply
pub record IsLogged {Z : Type 0} (old new : Log Z) (step : Step) (reply : Reply) : Type 0 where
  pub limits : new.limits ≡ old.limits
  pub allocator : new.allocator ≡ old.allocator
  pub transcript : new.transcript ≡ old.transcript ++ (step, reply) ∷ []
  pub told : record { state = new.state; reply = reply } ≡ step_of old.limits old.state step
