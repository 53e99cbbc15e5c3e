-- The open in which a process waits, tried again.

use Rattle.std.proofs.Common.{◌≡◌, ℕ, ◌-◌, Bool, true, false, Option, Some, None, set, if◌then◌else◌, Ok, nat_lt, refl}
use Rattle.std.proofs.Common.{sym, ap, subst, ◌∙◌}
use Rattle.pf_tables.proofs.Refusals.{is_there}
use Rattle.pf_tables.proofs.Common.{option_map, option_and_then, Opening, at, first_free, ◌>>=◌, or_refuse, itself}
use Rattle.pf_tables.proofs.Common.{State, process, with_process, with_descriptor, waiting, told, sweep, EBADF, ESRCH}
use Rattle.pf_tables.proofs.Common.{Num, Files, Limits, Window, Namespace, Open, over, woken, awoken, end_at}
use Rattle.pf_tables.proofs.Common.{ProcessRows, Key, DescriptionRows, PipeRows, Process, process_in, process_of}
use Rattle.pf_tables.proofs.Common.{state_of, Tied, set-set, at_within, at-put_same, first_free-map}
use Rattle.pf_machine.specs.Attempts.{Attempt, Waits, again, given, open_told, reopened}
use Rattle.pf_machine.specs.Calls.{Call}
use Rattle.pf_machine.specs.Machine.{call_of as machine_call_of}
use Rattle.pf_machine.specs.State as machine
use Rattle.pf_machine.specs.State.{living, of_living, change_process}
use Rattle.pf_base.specs.declared.step.Reply.TheVariants.{Parked}
use Rattle.pf_tables.specs.Opened.{others_at, Reopens}
use Rattle.pf_tables.specs.Rows.{call_of}
use Rattle.pf_tables.proofs.Ends.{as_kept, end_of_rows, open_end, seen_as_kept}
use Rattle.pf_tables.proofs.ProcessTableReady.{lives, place_of}
use Rattle.pf_tables.proofs.TablesSettled.{settled}
use Rattle.pf_tables.proofs.TablesShown.{set_same, place_in}

module _ {files : Files} {files_made : ℕ} {limits : Limits} {ps : ProcessRows} {ds : DescriptionRows}
    {pipes : PipeRows} (tied : Tied ps ds pipes) {old : Namespace}
    (view : record { limits = limits; state = state_of ps ds pipes files files_made } ≡ old) (pid : ℕ) {p : Process}
    (here : process_in ps pid ≡ Ok p) {d : Key} {before : ℕ} (waits : p.parked ≡ Some (Open d before)) where
  abbrev s : State Window ℕ
  s = old.state

  abbrev q : machine.Process ℕ
  q = process_of p

  who : living s pid ≡ Ok q
  who = subst (λ (m : Namespace). living m.state pid ≡ Ok q) view (lives ps pid p here)

  opener : process s pid ≡ Some q
  opener = is_there ESRCH (process s pid) who

  place : at s.processes (pid - 1) ≡ Some q
  place = place_in s pid opener

  parked : q.parked ≡ Some (Opening d.serial before)
  parked = ap (option_map call_of) waits

  waiting_in : machine_call_of s pid ≡ Some (Opening d.serial before)
  waiting_in = ap (option_and_then (λ (x : machine.Process ℕ). x.parked)) opener ∙ parked

  abbrev outcome : State Window ℕ → Bool → Attempt Window ℕ
  outcome t b = if b then given t pid q d.serial else Waits t (Opening d.serial before)

  -- it is over where the other side was opened since
  over_is : reopened itself s pid q d.serial before ≡ Ok (outcome s (nat_lt before (others_at ds pipes d)))
  over_is =
      let w = open_end as_kept None files files_made tied pid 0 d (place_of ps pid p here) waits in
      let kept = state_of ps ds pipes files files_made in
      rw (← view)
      (ap (λ o. or_refuse EBADF o >>= (λ e. Ok (open_told kept pid q d.serial before e)))
      (subst (λ (u : State Window ℕ). end_at itself u d.serial ≡ Some (end_of_rows as_kept w.0 w.1))
      (seen_as_kept ps ds pipes files files_made) w.2)
      ∙ ap (λ n. Ok (outcome kept (nat_lt before n))) (sym w.3))

  tried_again : (b : Bool) → nat_lt before (others_at ds pipes d) ≡ b
      → of_living s pid (λ x. Ok (again s pid (reopened itself s pid x d.serial before)))
      ≡ Ok (again s pid (Ok (outcome s b)))
  tried_again b is =
      ap (λ r. r >>= (λ x. Ok (again s pid (reopened itself s pid x d.serial before)))) who
      ∙ ap (λ r. Ok (again s pid r)) (over_is ∙ ap (λ x. Ok (outcome s x)) is)

  -- it goes on waiting
  pub still_waits : nat_lt before (others_at ds pipes d) ≡ false → Reopens old old pid Parked
  still_waits isnt =
      let call : Option (Call ℕ) = Some (Opening d.serial before) in
      let same : change_process (waiting call) s pid ≡ s =
      ap (λ ps. record s { processes = ps })
      (set_same s.processes (pid - 1) (option_map (waiting call) (at s.processes (pid - 1)))
      (ap (option_map (waiting call)) place ∙ ap (λ o. Some (record q { parked = o })) (sym parked) ∙ sym place)) in
      record {
        n = d.serial;
        before = before;
        waits = waiting_in;
        makes = record {
          is = tried_again false isnt ∙ ap (λ (z : State Window ℕ). Ok (told z Parked)) same;
          limits = refl;
          owned = λ f owns. owns;
          swept = rw (← view) (settled files files_made tied);
        };
      }

  -- or has its description at a descriptor
  pub comes : nat_lt before (others_at ds pipes d) ≡ true → {fd : ℕ} → fd ≡ first_free p.descriptors
      → {new : Namespace} → new ≡ record old { state = awoken old.state pid } → new.state ≡ sweep itself new.state
      → Reopens old new pid (Num fd)
  comes came {fd} lowest {new} becomes still =
      let named = with_descriptor (first_free q.descriptors) d.serial q in
      let same : change_process (waiting None) (with_process s pid named) pid ≡ awoken s pid =
      ap (λ xs. record s { processes = xs })
      (ap (set (set s.processes (pid - 1) (Some named)) (pid - 1))
      (ap (option_map (waiting None)) (at-put_same s.processes (pid - 1) (Some named)
      (at_within s.processes (pid - 1) q place)))
      ∙ set-set s.processes (pid - 1) (Some named) (Some (waiting None named))
      ∙ ap (set s.processes (pid - 1)) (ap (λ o. Some (over o q)) (sym parked)
      ∙ ap (option_map woken) (sym place))) in
      record {
        n = d.serial;
        before = before;
        waits = waiting_in;
        makes = record {
          is =
              tried_again true came
              ∙ (λ i. Ok (told ((same ∙ sym (ap (λ (n : Namespace). n.state) becomes)) i)
              (Num ((first_free-map (λ (x : Key). x.serial) p.descriptors ∙ sym lowest) i))));
          limits = ap (λ (n : Namespace). n.limits) becomes;
          owned = λ f owns. rw becomes (record { joined = owns.joined; reserve = owns.reserve });
          swept = still;
        };
      }
