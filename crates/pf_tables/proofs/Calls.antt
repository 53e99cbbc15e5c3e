-- A step wants memory only where it may.

use Rattle.std.proofs.Common.{◌≡◌, ℕ, Bool, true, false, not, ◌&&◌, ◌||◌, List, is_some, IsOk, Result, Ok, Err, refl}
use Rattle.std.proofs.Common.{ap, ◌∙◌}
use Rattle.pf_tables.proofs.Common.{◌>>=◌, ◌>>◌, or_refuse, refuse_if, process, ready, option_and_then, State}
use Rattle.pf_tables.proofs.Common.{Errno, ESRCH, EBUSY, Limits, Live, Namespace, Reply, Window, meaning}
use Rattle.pf_machine.specs.Machine.{Deed, OfLiving, OfNobody, OfReady, call_of, deed_by, doer, done_at, is_let_in}
use Rattle.pf_machine.specs.Machine.{is_of_living, is_refusal, lives, takes_memory, waits}
use Rattle.pf_machine.specs.Paths.{has_dots}
use Rattle.pf_machine.specs.State.{Process, living}
use Rattle.pf_base.specs.declared.step.Step.{Step}
use Rattle.pf_tables.specs.Calls.{MayWant, own_of, untried}
use Rattle.pf_tables.proofs.Refusals.{both_came, is_there, not_refused, ok_is}

first_ok : {A B : Type 0} (m : Result A Errno) (k : A → Result B Errno) → IsOk (m >>= k) → (x : A) × (m ≡ Ok x)
first_ok (Ok x) k ok = (x, refl)
first_ok (Err e) k ok = absurd (cc)

-- who makes a step that goes through was let in
pub let_in : {X : Type 0} (s : State X ℕ) (pid : ℕ) (p : Process ℕ) → ready s pid ≡ Ok p
    → (is_some (process s pid) && not (is_some (call_of s pid))) ≡ true
let_in s pid p h =
    let test : Process ℕ → Result (Process ℕ) Errno = λ q. refuse_if (is_some q.parked) EBUSY >> Ok q in
    let w = both_came (or_refuse ESRCH (process s pid)) test h in
    let there = is_there ESRCH (process s pid) w.1 in
    let awake = (not_refused (is_some w.0.parked) EBUSY (Ok w.0) w.2).0 in
    (λ i. is_some (there i) && not (is_some (option_and_then (λ (q : Process ℕ). q.parked) (there i)))) ∙ ap not awake

made_in : (c : Limits) (s : State Window ℕ) (d : Deed Window) → IsOk (done_at c s d)
    → (lives s (doer d) && (is_of_living d || not (waits s (doer d)))) ≡ true
made_in c s (OfNobody does) ok = refl
made_in c s (OfLiving pid does) ok =
    let w = first_ok (living s pid) (does c s) ok in λ i. is_some (is_there ESRCH (process s pid) w.1 i) && true
made_in c s (OfReady pid does) ok = let w = first_ok (ready s pid) (does c s) ok in let_in s pid w.0 w.1

by_dots : (dots other : Bool) → (dots ≡ false → other ≡ true) → (dots || other) ≡ true
by_dots true other h = refl
by_dots false other h = h refl

-- where this comes to be true, it may want memory
abbrev May : Namespace → Step → (Reply → Bool) → Type 0
May n step b = (f : Live) (reply : Reply) → b reply ≡ true
    → (takes_memory (meaning f n.state) step reply && is_let_in (meaning f n.state) step) ≡ true

-- step: the kind that it is of. may: what it comes to of this kind
module _ (n : Namespace) {step asked : Step} (is : asked ≡ step) where
  -- a step that isn't refused may
  pub made_wants : let d = deed_by untried step in May n step (λ reply. not (is_refusal reply)
      && (lives n.state (doer d) && (is_of_living d || not (waits n.state (doer d)))))
      → IsOk (own_of n step) → MayWant n asked
  made_wants may ok =
      rw is (λ f reply well. may f reply
      (λ i. not (well ok i) && made_in n.limits n.state (deed_by untried step) ok i))

  module _ (pid : ℕ) where
    abbrev lets_in : Bool
    lets_in = is_some (process n.state pid) && not (is_some (call_of n.state pid))

    -- and one with a path also where a name of it is `.` or `..`
    pub path_wants : (path : List ℕ) → May n step (λ reply. (has_dots path || not (is_refusal reply)) && lets_in)
        → IsOk (ready n.state pid) → (has_dots path ≡ false → IsOk (own_of n step)) → MayWant n asked
    path_wants path may there plainly =
        let w = ok_is (ready n.state pid) there in
        rw is (λ f reply well. may f reply
        (λ i. by_dots (has_dots path) _ (λ plain. ap not (well (plainly plain))) i && let_in n.state pid w.0 w.1 i))

    -- or there alone
    pub dots_want : (path : List ℕ) → May n step (λ reply. has_dots path && lets_in) → IsOk (ready n.state pid)
        → has_dots path ≡ true → MayWant n asked
    dots_want path may there walks =
        let w = ok_is (ready n.state pid) there in
        rw is (λ f reply well. may f reply (λ i. walks i && let_in n.state pid w.0 w.1 i))
