-- Calls on files, as the tables make them and as the machine does: only the files change, and nobody sees them but the
-- calls.

use Rattle.std.proofs.Common.{◌≡◌, ℕ, Result, Ok, Err, IsOk, refl, sym, ap, subst, ◌∙◌}
use Rattle.pf_tables.proofs.Common.{Files, Limits, ◌>>=◌, State, Outcome, of_ready, done, told, Errno, Fault, Reply}
use Rattle.pf_tables.proofs.Common.{Num, Window, Namespace, ProcessRows, DescriptionRows, PipeRows, Process, process_of}
use Rattle.pf_tables.proofs.Common.{state_of, ready_in, Tied, Makes, Says, Told}
use Rattle.pf_machine.specs.State as machine
use Rattle.pf_base.specs.declared.fault.Fault.TheVariants as faults
use Rattle.pf_tables.specs.Tables.{made_reply}
use Rattle.pf_tables.proofs.ProcessTableReady.{readies}
use Rattle.pf_tables.proofs.Refusals.{ok_is}
use Rattle.pf_tables.proofs.TablesSettled.{makes}
use Rattle.pf_walk.specs.Told.{Changed}

-- a change that is replied to wanted memory where its reply says so
pub unmade : (made : Result (Unit {0}) Fault) → made_reply made ≡ Err faults.NoMemory → made ≡ Err faults.NoMemory
unmade (Ok done) none = absurd (cc)
unmade (Err fault) none = cc none

module _ {limits : Limits} {ps : ProcessRows} {ds : DescriptionRows} {pipes : PipeRows} {files : Files} {files_made : ℕ}
    (tied : Tied ps ds pipes) {n : Namespace}
    (view : record { limits = limits; state = state_of ps ds pipes files files_made } ≡ n) (pid : ℕ) {p : Process}
    (is : ready_in ps pid ≡ Ok p) where
  abbrev s : State Window ℕ
  s = state_of ps ds pipes files files_made

  -- a call on files, as a step of the machine's that goes on from what is found or changed
  module _ (step : State Window ℕ → machine.Process ℕ → Result (Outcome Window ℕ) Errno) {A : Type 0}
      (answer : Result A Errno) (go : A → Result (Outcome Window ℕ) Errno)
      (goes : step s (process_of p) ≡ (answer >>= go)) where
    abbrev call : State Window ℕ → Result (Outcome Window ℕ) Errno
    call t = of_ready t pid (step t)

    called : {r : Result A Errno} → answer ≡ r → call s ≡ (r >>= go)
    called found = ap (λ x. x >>= step s) (readies ps pid p is) ∙ goes ∙ ap (λ r. r >>= go) found

    refused : {e : Errno} → answer ≡ Err e → call n.state ≡ Err e
    refused {e} found = rw (← view) (called found)

    -- it is refused, or there was no memory
    pub tells_not : {X : Type 0} (shows : X → A) (new : Namespace) (fault : Fault) → Told shows (Err fault) answer
        → Says n new (Err fault) (call n.state)
    tells_not shows new (faults.Errno e) found = refused found
    tells_not shows new faults.NoMemory found = tt

    -- or tells what it found
    pub tells : {x : A} {reply : Reply} → answer ≡ Ok x → go x ≡ Ok (told s reply) → Makes n n (call n.state) reply
    tells {reply = reply} found is =
        rw (← view) (makes tied files files_made refl refl call reply (called found ∙ is))

    -- where the files don't stand against it, nothing does
    pub goes_well : ((x : A) → IsOk (go x)) → IsOk answer → IsOk (call n.state)
    goes_well each ok =
        let w = ok_is answer ok in
        subst (λ (m : Namespace). IsOk (call m.state)) view (subst IsOk (sym (called w.1)) (each w.0))

  -- a call that changes the files, or doesn't: so many were made then
  module _ (made : ℕ) (step : State Window ℕ → machine.Process ℕ → Result (Outcome Window ℕ) Errno)
      (answer : Result Files Errno) (goes : step s (process_of p)
      ≡ (answer >>= (λ fs. Ok (done (record s { files = fs; files_made = made }) 0)))) where
    abbrev now : Files → Namespace
    now files' = record { limits = limits; state = state_of ps ds pipes files' made }

    pub changed_not : (files' : Files) (new : Namespace) (fault : Fault) → Changed (Err fault) files files' answer
        → Says n new (Err fault) (of_ready n.state pid (step n.state))
    changed_not files' new (faults.Errno e) c = refused step answer _ goes c.0
    changed_not files' new faults.NoMemory c = tt

    pub changed : (files' : Files) (result : Result (Unit {0}) Fault) → Changed result files files' answer
        → Says n (now files') (made_reply result) (of_ready n.state pid (step n.state))
    changed files' (Ok x) c =
        makes tied files' made view refl (λ t. of_ready t pid (step t)) (Num 0) (called step answer _ goes c)
    changed files' (Err fault) c = changed_not files' (now files') fault c

    pub changes_well : IsOk answer → IsOk (of_ready n.state pid (step n.state))
    changes_well = goes_well step answer _ goes (λ fs. refl)
