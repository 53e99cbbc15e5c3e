-- Who makes a step, as the tables find it and as the machine does.

use Rattle.std.proofs.Common.{◌≡◌, ℕ, zero, suc, ◌-◌, Option, Some, None, is_some, IsOk, Result, Ok, Err, refl, sym, ap}
use Rattle.std.proofs.Common.{◌∙◌, arith}
use Rattle.pf_machine.proofs.MapLaws.{or_refuse-as, bind-as}
use Rattle.pf_machine.specs.Maps.{if_ok}
use Rattle.pf_tables.proofs.Refusals.{both_came, not_refused, is_there, same_ok, is_none}
use Rattle.pf_tables.proofs.Common.{option_map, ◌>>=◌, ◌>>◌, refuse_if, or_refuse, at, Errno, ESRCH, EBUSY, ProcessRows}
use Rattle.pf_tables.proofs.Common.{Key, Process, process_of, processes_of, process_in, ready_in, at-map, awake}
use Rattle.pf_machine.specs.State as machine
use Rattle.pf_machine.specs.State.{living_in}
use Rattle.pf_tables.specs.Rows.{Call, call_of}

-- a process with what the machine sees of it
abbrev pub shown_in : Result Process Errno → Result (machine.Process ℕ) Errno
shown_in r = if_ok process_of r

pub found_in : (r : Result Process Errno) → IsOk (shown_in r) → (p : Process) × (r ≡ Ok p)
found_in (Ok p) h = (p, refl)
found_in (Err e) h = absurd (cc)

abbrev machine_awake : machine.Process ℕ → Result (machine.Process ℕ) Errno
machine_awake p = refuse_if (is_some p.parked) EBUSY >> Ok p

pub awake_shown : (p : Process) → machine_awake (process_of p) ≡ shown_in (awake p)
awake_shown p = by_call p.parked
  where
    by_call : (o : Option (Call Key)) → (refuse_if (is_some (option_map call_of o)) EBUSY >> Ok (process_of p))
        ≡ shown_in (refuse_if (is_some o) EBUSY >> Ok p)
    by_call None = refl
    by_call (Some call) = refl

module _ (ps : ProcessRows) (pid : ℕ) where
  -- the machine's process is the one that the tables show
  pub living_shown : living_in (processes_of ps) pid ≡ shown_in (process_in ps pid)
  living_shown = by_pid pid
    where
      by_pid : (n : ℕ) → living_in (processes_of ps) n ≡ shown_in (process_in ps n)
      by_pid zero = refl
      by_pid (suc i) = ap (or_refuse ESRCH) (at-map process_of ps i) ∙ or_refuse-as process_of ESRCH (at ps i)

  pub ready_shown : machine.ready_in (processes_of ps) pid ≡ shown_in (ready_in ps pid)
  ready_shown =
      ap (λ r. r >>= machine_awake) living_shown
      ∙ bind-as process_of process_of (process_in ps pid) awake machine_awake awake_shown

  pub lives : (p : Process) → process_in ps pid ≡ Ok p → living_in (processes_of ps) pid ≡ Ok (process_of p)
  lives p h = living_shown ∙ ap shown_in h

  pub lives_not : (e : Errno) → process_in ps pid ≡ Err e → living_in (processes_of ps) pid ≡ Err e
  lives_not e h = living_shown ∙ ap shown_in h

  pub readies : (p : Process) → ready_in ps pid ≡ Ok p → machine.ready_in (processes_of ps) pid ≡ Ok (process_of p)
  readies p h = ready_shown ∙ ap shown_in h

-- who is ready lives
pub is_living : (ps : ProcessRows) (pid : ℕ) (p : Process) → ready_in ps pid ≡ Ok p → process_in ps pid ≡ Ok p
is_living ps pid p h =
    let w = both_came (process_in ps pid) awake h in w.1 ∙ (not_refused (is_some w.0.parked) EBUSY (Ok w.0) w.2).1

-- its place is one below its pid
pub place_of : (ps : ProcessRows) (pid : ℕ) (p : Process) → process_in ps pid ≡ Ok p → at ps (pid - 1) ≡ Some p
place_of ps zero p h = absurd (cc)
place_of ps (suc i) p h = let same : suc i - 1 ≡ i = omega arith in ap (at ps) same ∙ is_there ESRCH (at ps i) h

pub place_is : (ps : ProcessRows) (pid : ℕ) (p : Process) → ready_in ps pid ≡ Ok p → at ps (pid - 1) ≡ Some p
place_is ps pid p h = place_of ps pid p (is_living ps pid p h)

-- and it waits in no call
pub is_awake : (ps : ProcessRows) (pid : ℕ) (p : Process) → ready_in ps pid ≡ Ok p → p.parked ≡ None
is_awake ps pid p h =
    let w = both_came (process_in ps pid) awake h in
    let came = not_refused (is_some w.0.parked) EBUSY (Ok w.0) w.2 in
    ap (λ (q : Process). q.parked) (sym (same_ok came.1)) ∙ is_none w.0.parked came.0
