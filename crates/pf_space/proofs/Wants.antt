-- What wants memory may want it: a Spawn, and, of a process that lives and waits in no call, a Fork, a Pipe, a SetSize
-- and a call on a path but Stat, all where they aren't refused, a call on a path that is walked by `.` or `..` also
-- where it is, and a Read and a Write of many bytes.

use Rattle.std.proofs.Common.{◌≡◌, ℕ, true, false, ◌&&◌, Result, Ok, Err, IsOk, refl, ap, ◌∙◌}
use Rattle.std.specs.Prelude.{⊤}
use Rattle.pf_base.specs.declared.step.Reply.TheVariants as replies
use Rattle.pf_base.specs.declared.step.Step.TheVariants as steps
use Rattle.pf_machine.specs.Attempts.{Attempt, first, nonblocking, transfer}
use Rattle.pf_machine.specs.Calls.{Transfer}
use Rattle.pf_machine.specs.Machine.{act, hands_many, is_refusal, may_want_memory}
use Rattle.pf_machine.specs.FileCalls as calls
use Rattle.pf_machine.specs.State.{settle, told}
use Rattle.pf_machine.specs.Transfers.{tried}
use Rattle.pf_machine.proofs.AttemptLaws.{open-comes}
use Rattle.pf_machine.proofs.HoldsLaws.{Holds, carries}
use Rattle.pf_machine.proofs.StepLaws.{IsNoError, Moves, Still, step-keeps}
use Rattle.pf_tables.specs.Calls.{IsBooked, MayWant, own_of}
use Rattle.pf_tables.specs.Told.{HandsMany, attempted}
use Rattle.pf_tables.proofs.Calls.{let_in}
use Rattle.pf_tables.proofs.Refusals.{both_came}
use Rattle.pf_space.proofs.Common.{Reading, Limits, call, Segment, ◌>>=◌, State, Outcome, ready, transfer_told, Reply}
use Rattle.pf_space.proofs.Common.{Step, Errno, Live, Namespace, meaning}
use Rattle.pf_space.proofs.Books.{natural, ok-as}

pub read_wants : (c : Limits) (s : State Segment ℕ) (pid fd n : ℕ) → HandsMany (attempted s pid (Reading fd n))
    → may_want_memory c s (steps.Read pid fd n) ≡ true
read_wants c s pid fd n h =
    let t : Transfer = Reading fd n in
    let w = both_came (ready s pid) (λ p. tried s p t) h.is in
    let goes : Result (Attempt Segment ℕ) Errno → Result (Outcome Segment ℕ) Errno =
    λ a. a >>= first pid (nonblocking s w.0 t) in
    let made : call c s (steps.Read pid fd n) ≡ Ok (told h.tried.state (replies.Bytes h.tried.bytes)) =
    ap (λ q. q >>= (λ p. transfer s pid p false t)) w.1
    ∙ ap (λ q. goes (q >>= (λ r. transfer_told t r r.progress))) w.2
    ∙ ap (λ g. goes (transfer_told t h.tried g)) h.progress in
    let many = ap (λ (r : Result (Outcome Segment ℕ) Errno). hands_many (settle s r).reply) made ∙ h.many in
    λ i. many i && let_in s pid w.0 w.1 i

-- A step that makes something wants memory only where it isn't refused

abbrev EndsWell : Outcome Segment ℕ → Type 0
EndsWell o = is_refusal o.reply ≡ false

no_refusal : (r : Reply) → IsNoError r → is_refusal r ≡ false
no_refusal (replies.Err e) fine = absurd fine
no_refusal _ fine = refl

-- no change that a step makes is told as a refusal
still : (s : State Segment ℕ) → Still s EndsWell
still s = record {
  spawned = λ cred. refl;
  forked = λ pid p f. refl;
  exited = λ pid p l. refl;
  duped = λ pid p fd n f e. refl;
  closed = λ pid p fd f. refl;
  flagged = λ n on. refl;
  piped = λ pid p nonblock f slots. refl;
  sized = λ p fd e is pages. refl;
  looked = λ r fine short. no_refusal r fine;
  made = λ c kind path mode files e. refl;
  filed = λ c files how. refl;
  opened = λ c pid p path a f. open-comes s EndsWell c pid p a (λ x. ⊤) (λ n file e. tt) (λ x there e slots. tt)
      (λ x h. refl) (λ x h kept. refl) path;
}

by_call : (s : State Segment ℕ) (r : Result (Outcome Segment ℕ) Errno) → Holds EndsWell r → IsOk r
    → is_refusal (settle s r).reply ≡ false
by_call s (Ok o) well ok = well
by_call s (Err e) well ok = absurd (cc)

-- what a List hands out is no refusal, and no other of these kinds hands anything out
comes_well : (s : State Segment ℕ) (step : Step) → IsBooked step → Moves s EndsWell step
comes_well s (steps.List pid path) is =
    λ p free. carries EndsWell (calls.list s.files p.cred path) _ (λ x. refl)
comes_well s (steps.Read pid fd n) is = absurd is
comes_well s (steps.Write pid fd x) is = absurd is
comes_well s (steps.Tee pid source sink n nonblock) is = absurd is
comes_well s (steps.Splice pid source sink n nonblock) is = absurd is
comes_well s (steps.Resume pid) is = absurd is
comes_well s _ is = tt

-- where the tables want memory for a step, it may want it
pub wants : (f : Live) (n : Namespace) (step : Step) → IsBooked step → MayWant n step
    → may_want_memory n.limits (meaning f n.state) step ≡ true
wants f n step is may =
    let s = meaning f n.state in
    may f (act n.limits s step).reply (λ ok. by_call s (call n.limits s step)
    (step-keeps s EndsWell (still s) n.limits step (comes_well s step is))
    (ok-as f n.limits n.state step (own_of n step) (natural n step is) ok))
