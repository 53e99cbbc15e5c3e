-- What the tables say of a call at their own state, the lone machine says of what that state means: one lemma for all
-- kinds of step that move no bytes and let nothing go.

use Rattle.std.proofs.Common.{◌≡◌, ℕ, ◌+◌, length, Option, Some, None, Result, Ok, Err, IsOk, OnErr, refl, sym, ap}
use Rattle.std.proofs.Common.{subst, ◌∙◌}
use Rattle.pf_tables.proofs.TablesShown.{each-same}
use Rattle.pf_space.proofs.Common.{option_map, Limits, Errno, Fault, Reply, Step, Call, Moving, call, Segment, ◌>>=◌}
use Rattle.pf_space.proofs.Common.{itself, State, Process, Outcome, ready, Live, Window, Namespace, meaning, Owns, Told}
use Rattle.pf_space.proofs.Common.{settled}
use Rattle.pf_base.specs.declared.fault.Fault.TheVariants as faults
use Rattle.pf_base.specs.declared.meta.Kind.TheVariants as kinds
use Rattle.pf_base.specs.declared.step.Step.TheVariants as steps
use Rattle.pf_machine.specs.Attempts.{has_nonblock, is_nonblocking}
use Rattle.pf_machine.specs.Calls.{Opening}
use Rattle.pf_machine.specs.Maps.{if_ok, call_as, process_as, description_as, state_as, outcome_as}
use Rattle.pf_machine.specs.State.{of_ready, told}
use Rattle.pf_machine.proofs.Natural.{born-as, call-as, dup-as, get_size-as, set_nonblock-as, spawn-as}
use Rattle.pf_machine.proofs.NaturalCalls.{open-call, pipe-call}
use Rattle.pf_machine.proofs.NaturalFiles.{chmod-as, list-as, make-as, rmdir-as, stat-as, unlink-as}
use Rattle.pf_machine.proofs.NaturalSizes.{set_size-as}
use Rattle.pf_machine.proofs.NaturalWaits.{has_nonblock-as}
use Rattle.pf_ring.specs.Ring.{segment_of}
use Rattle.pf_tables.specs.Calls.{IsBooked, own_of}
use Rattle.pf_tables.specs.Tables.{Says}
use Rattle.pf_tables.proofs.MeaningLaws.{settled-meaning}
use Rattle.pf_tables.proofs.Refusals.{ok_is}

-- what is mapped to itself

call-same : (o : Option (Call ℕ)) → option_map (call_as itself) o ≡ o
call-same None = refl
call-same (Some (Opening n kept)) = refl
call-same (Some (Moving transfer)) = refl

process-same : (p : Process ℕ) → process_as itself p ≡ p
process-same p =
    λ i. record p { descriptors = each-same itself (λ n. refl) p.descriptors i; parked = call-same p.parked i }

-- what a state means is that state with a segment for each window
meaning-as : (f : Live) (s : State Window ℕ) → state_as (segment_of f) itself s ≡ meaning f s
meaning-as f s =
    λ i. record (meaning f s) {
      processes = each-same (process_as itself) process-same s.processes i;
      descriptions = each-same (description_as itself) (λ d. refl) s.descriptions i;
    }

-- and so is a description's flag
pub flag-meaning : (f : Live) (s : State Window ℕ) (p : Process ℕ) (fd : ℕ)
    → is_nonblocking (meaning f s) p fd ≡ has_nonblock itself s p fd
flag-meaning f s p fd =
    (λ i. has_nonblock itself (sym (meaning-as f s) i) (sym (process-same p) i) fd)
    ∙ has_nonblock-as (segment_of f) itself itself itself (λ n. refl) s p fd

-- what the machine's call of a kind of step is, where a window shows a segment: own, each window in it shown so
abbrev pub Natural : Limits → State Window ℕ → Step → Result (Outcome Window ℕ) Errno → Type 0
Natural limits s step own =
    (shows : Window → Segment) → call limits (state_as shows itself s) step ≡ if_ok (outcome_as shows itself) own

-- What the machine's call is at the meaning of a state. step: the kind that it is of
module _ (f : Live) (limits : Limits) (s : State Window ℕ) (step : Step) (own : Result (Outcome Window ℕ) Errno)
    (natural : Natural limits s step own) where
  machine : call limits (meaning f s) step ≡ if_ok (outcome_as (segment_of f) itself) own
  machine = ap (λ x. call limits x step) (sym (meaning-as f s)) ∙ natural (segment_of f)

  pub ok-as : IsOk own → IsOk (call limits (meaning f s) step)
  ok-as is =
      subst IsOk (sym (machine ∙ ap (if_ok (outcome_as (segment_of f) itself)) (ok_is own is).1)) refl

  pub made-as : {t : State Window ℕ} {reply : Reply} → own ≡ Ok (told t reply)
      → call limits (meaning f s) step ≡ Ok (told (meaning f t) reply)
  made-as {t} {reply} is =
      machine ∙ ap (if_ok (outcome_as (segment_of f) itself)) is ∙ ap (λ x. Ok (told x reply)) (meaning-as f t)

  pub refused-as : {e : Errno} → own ≡ Err e → call limits (meaning f s) step ≡ Err e
  refused-as is = machine ∙ ap (if_ok (outcome_as (segment_of f) itself)) is

-- what a process that is ready does is the machine's call, where its own part is so
pub as_ready : (shows : Window → Segment) (s : State Window ℕ) (pid : ℕ)
    (k : Process ℕ → Result (Outcome Window ℕ) Errno) (m : Process ℕ → Result (Outcome Segment ℕ) Errno)
    → ((p : Process ℕ) → m (process_as itself p) ≡ if_ok (outcome_as shows itself) (k p))
    → (ready (state_as shows itself s) pid >>= m) ≡ if_ok (outcome_as shows itself) (of_ready s pid k)
as_ready shows = call-as shows itself (outcome_as shows itself)

-- A call that was made, or refused. given: what is handed on of what the tables told
pub booked : {f : Live} {tables old new : Namespace} → tables ≡ old → Owns f old → {given result : Result Reply Fault}
    → given ≡ result → (step : Step) → (own : Result (Outcome Window ℕ) Errno) → Says tables new result own
    → OnErr result (new ≡ tables) → Natural tables.limits tables.state step own
    → Told f f old new given (call old.limits (meaning f old.state) step)
booked {f} {tables} {old} {new} view owns {given} {result} moved step own says refused natural =
    rw (← view, moved) (by_result result says refused)
  where
    owned : Owns f tables
    owned = rw (← view) at owns

    by_result : (r : Result Reply Fault) → Says tables new r own → OnErr r (new ≡ tables)
        → Told f f tables new r (call tables.limits (meaning f tables.state) step)
    by_result (Ok reply) made same = record {
      owns = made.owned f owned;
      limits = made.limits;
      says =
          ap settled (made-as f tables.limits tables.state step own natural made.is)
          ∙ (λ i. Ok (record { state = sym (settled-meaning f new.state made.swept) i; reply = reply }));
    }
    by_result (Err (faults.Errno e)) refusal same =
        rw same (record {
          owns = owned;
          limits = refl;
          says = (refused-as f tables.limits tables.state step own natural refusal, refl);
        })
    by_result (Err faults.NoMemory) wanted same = rw same (record { owns = owned; limits = refl; says = (refl, refl) })

-- What the tables make of a step at their own state

pub natural : (n : Namespace) (step : Step) → IsBooked step → Natural n.limits n.state step (own_of n step)
natural n (steps.Spawn uid gid umask groups) is shows =
    spawn-as shows itself n.state (record { uid = uid; gid = gid; groups = groups; umask = umask })
natural n (steps.Fork pid) is shows = as_ready shows n.state pid _ _ (λ p. born-as shows itself n.state p)
natural n (steps.Pipe pid nonblock) is shows =
    pipe-call shows itself n.limits n.state pid (length n.state.descriptions) (length n.state.descriptions + 1)
    (length n.state.pipes) refl refl refl nonblock
natural n (steps.Dup pid fd) is shows = as_ready shows n.state pid _ _ (λ p. dup-as shows itself n.state pid p fd)
natural n (steps.SetNonblock pid fd on) is shows =
    as_ready shows n.state pid _ _ (λ p. set_nonblock-as shows itself itself itself (λ m. refl) n.state p _ _)
natural n (steps.SetSize pid fd bytes) is shows =
    as_ready shows n.state pid _ _ (λ p. set_size-as shows itself itself itself (λ m. refl) _ n.state p _ _)
natural n (steps.GetSize pid fd) is shows =
    as_ready shows n.state pid _ _ (λ p. get_size-as shows itself itself itself (λ m. refl) n.state p _)
natural n (steps.Mkdir pid path mode) is shows =
    as_ready shows n.state pid _ _ (λ p. make-as shows itself n.state p path kinds.Directory mode)
natural n (steps.Mkfifo pid path mode) is shows =
    as_ready shows n.state pid _ _ (λ p. make-as shows itself n.state p path kinds.Fifo mode)
natural n (steps.Unlink pid path) is shows =
    as_ready shows n.state pid _ _ (λ p. unlink-as shows itself n.state p path)
natural n (steps.Rmdir pid path) is shows =
    as_ready shows n.state pid _ _ (λ p. rmdir-as shows itself n.state p path)
natural n (steps.Chmod pid path mode) is shows =
    as_ready shows n.state pid _ _ (λ p. chmod-as shows itself n.state p path mode)
natural n (steps.Stat pid path) is shows = as_ready shows n.state pid _ _ (λ p. stat-as shows itself n.state p path)
natural n (steps.List pid path) is shows = as_ready shows n.state pid _ _ (λ p. list-as shows itself n.state p path)
natural n (steps.Open pid path flags) is shows =
    open-call shows itself n.limits n.state pid path (length n.state.descriptions) itself refl (λ m. refl) flags
natural n _ is shows = absurd is

-- a step that they make, or refuse
pub booked_step : {f : Live} {tables old new : Namespace} → tables ≡ old → Owns f old
    → {given result : Result Reply Fault} → given ≡ result → (step : Step) → IsBooked step
    → Says tables new result (own_of tables step) → OnErr result (new ≡ tables)
    → Told f f old new given (call old.limits (meaning f old.state) step)
booked_step {tables = tables} view owns moved step is says refused =
    booked view owns moved step (own_of tables step) says refused (natural tables step is)

-- a refusal
pub booked_not : {f : Live} {tables old new : Namespace} → tables ≡ old → Owns f old → (step : Step)
    → {own : Result (Outcome Window ℕ) Errno} → Natural tables.limits tables.state step own
    → {e : Errno} → own ≡ Err e → new ≡ tables
    → Told f f old new (Err (faults.Errno e)) (call old.limits (meaning f old.state) step)
booked_not view owns step {own} natural is same = booked view owns refl step own is same natural
