-- The same of calls that wait: parking, who waits, and an open that is tried again; and of O_NONBLOCK, which a transfer
-- asks for.

use Rattle.std.proofs.Common.{◌≡◌, ℕ, ◌-◌, Bool, true, false, nat_lt, is_some, if◌then◌else◌, Option, Some, None, Result, Ok, Err, refl, sym, ap, ◌∙◌}
use Rattle.std.specs.Option.{option_map, option_and_then}
use Rattle.pf_base.specs.declared.errno.Errno.{Errno}
use Rattle.pf_base.specs.declared.errno.Errno.TheVariants.{EBADF}
use Rattle.pf_base.specs.declared.step.Reply.TheVariants.{Parked, Err as Refused}
use Rattle.pf_machine.specs.Refusals.{◌>>=◌, or_refuse}
use Rattle.pf_machine.specs.Calls.{Call, Opening}
use Rattle.pf_machine.specs.State.{Process, State, Outcome, End, process, end_at, end_of, change_process, waiting, told}
use Rattle.pf_machine.specs.Attempts.{Attempt, Finished, Waits, other_opens, given, open_told, reopened, parked, again, has_nonblock}
use Rattle.pf_machine.specs.Machine.{call_of, waits}
use Rattle.pf_machine.specs.Maps.{if_ok, call_as, process_as, state_as, outcome_as, end_as, attempt_as}
use Rattle.pf_machine.proofs.MapLaws.{change_at-map, or_refuse-as, bind-as}
use Rattle.pf_machine.proofs.Natural.{process-as, end_at-as, end_of-as}
use Rattle.pf_machine.proofs.NaturalOpens.{given-as}

module _ {X Y : Type 0} (f : X → Y) {N M : Type 0} (g : N → M) where
  abbrev S : State X N → State Y M
  S = state_as f g

  abbrev O : Outcome X N → Outcome Y M
  O = outcome_as f g

  abbrev A : Attempt X N → Attempt Y M
  A = attempt_as f g

  abbrev E : End X N → End Y M
  E = end_as f g

  -- Parking

  pub change_process-as : (h : Process N → Process N) (k : Process M → Process M)
      → ((p : Process N) → k (process_as g p) ≡ process_as g (h p)) → (s : State X N) (pid : ℕ)
      → change_process k (S s) pid ≡ S (change_process h s pid)
  change_process-as h k same s pid =
      ap (λ xs. record (S s) { processes = xs })
      (sym (change_at-map (process_as g) h k (λ p. sym (same p)) s.processes (pid - 1)))

  pub waiting-as : (o : Option (Call N)) (s : State X N) (pid : ℕ)
      → change_process (waiting (option_map (call_as g) o)) (S s) pid ≡ S (change_process (waiting o) s pid)
  waiting-as o s pid = change_process-as (waiting o) (waiting (option_map (call_as g) o)) (λ p. refl) s pid

  pub parked-as : (s : State X N) (pid : ℕ) (call : Call N)
      → parked (S s) pid (call_as g call) ≡ O (parked s pid call)
  parked-as s pid call = ap (λ t. told t Parked) (waiting-as (Some call) s pid)

  -- Who waits in what

  pub call_of-as : (s : State X N) (pid : ℕ) → call_of (S s) pid ≡ option_map (call_as g) (call_of s pid)
  call_of-as s pid = ap (option_and_then (λ p. p.parked)) (process-as f g s pid) ∙ by_process (process s pid)
    where
      by_process : (o : Option (Process N))
          → option_and_then (λ p. p.parked) (option_map (process_as g) o)
          ≡ option_map (call_as g) (option_and_then (λ p. p.parked) o)
      by_process None = refl
      by_process (Some p) = refl

  stands-as : {B C : Type 0} (h : B → C) (o : Option B) → is_some (option_map h o) ≡ is_some o
  stands-as h None = refl
  stands-as h (Some x) = refl

  waits-as : (s : State X N) (o : Option ℕ) → waits (S s) o ≡ waits s o
  waits-as s None = refl
  waits-as s (Some pid) = ap is_some (call_of-as s pid) ∙ stands-as (call_as g) (call_of s pid)

  -- A call that is tried again

  pub again-as : (s : State X N) (pid : ℕ) (r : Result (Attempt X N) Errno)
      → again (S s) pid (if_ok A r) ≡ O (again s pid r)
  again-as s pid (Ok (Finished t reply)) = ap (λ t. told t reply) (waiting-as None t pid)
  again-as s pid (Ok (Waits t call)) = parked-as t pid call
  again-as s pid (Err e) = ap (λ t. told t (Refused e)) (waiting-as None s pid)

  open_told-as : (s : State X N) (pid : ℕ) (p : Process N) (n : N) (kept : ℕ) (e : End X N)
      → open_told (S s) pid (process_as g p) (g n) kept (E e) ≡ A (open_told s pid p n kept e)
  open_told-as s pid p n kept e = by_test (nat_lt kept (other_opens e))
    where
      by_test : (b : Bool)
          → (if b then given (S s) pid (process_as g p) (g n) else Waits (S s) (Opening (g n) kept))
          ≡ A (if b then given s pid p n else Waits s (Opening n kept))
      by_test true = given-as f g s pid p n
      by_test false = refl

  -- What follows names

  module _ (v : N → ℕ) (w : M → ℕ) (same : (n : N) → w (g n) ≡ v n) where
    pub reopened-as : (s : State X N) (pid : ℕ) (p : Process N) (n : N) (kept : ℕ)
        → reopened w (S s) pid (process_as g p) (g n) kept ≡ if_ok A (reopened v s pid p n kept)
    reopened-as s pid p n kept =
        ap (λ o. or_refuse EBADF o >>= (λ e. Ok (open_told (S s) pid (process_as g p) (g n) kept e)))
        (ap (end_at w (S s)) (same n) ∙ end_at-as f g v w same s (v n))
        ∙ ap (λ r. r >>= (λ e. Ok (open_told (S s) pid (process_as g p) (g n) kept e)))
        (or_refuse-as E EBADF (end_at v s (v n)))
        ∙ bind-as E A (or_refuse EBADF (end_at v s (v n))) _ _ (λ e. ap Ok (open_told-as s pid p n kept e))

    pub has_nonblock-as : (s : State X N) (p : Process N) (fd : ℕ)
        → has_nonblock w (S s) (process_as g p) fd ≡ has_nonblock v s p fd
    has_nonblock-as s p fd = ap of_end (end_of-as f g v w same s p fd) ∙ by_end (end_of v s p fd)
      where
        of_end : {Z L : Type 0} → Result (End Z L) Errno → Bool
        of_end (Ok e) = e.description.nonblocking
        of_end (Err e) = false

        by_end : (r : Result (End X N) Errno) → of_end (if_ok E r) ≡ of_end r
        by_end (Ok e) = refl
        by_end (Err e) = refl
