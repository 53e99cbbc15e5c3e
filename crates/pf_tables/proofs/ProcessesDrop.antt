-- Exit begins, or there is nobody who exits.

use Rattle.std.proofs.Common.{◌≡◌, ℕ, zero, suc, ◌-◌, ◌<◌, Option, Some, None, Ok, Err, refl, ap, ◌∙◌, arith}
use Rattle.pf_tables.proofs.Common.{option_map, Opening, Files, at, itself, ◌>>=◌, sweep, Limits, Errno, Namespace}
use Rattle.pf_tables.proofs.Common.{ProcessRows, DescriptionRows, PipeRows, process_of, state_of, process_in, over}
use Rattle.pf_tables.proofs.Common.{woken, awoken, at_within, at-put_same}
use Rattle.pf_machine.specs.Calls.{Call, Moving}
use Rattle.pf_machine.specs.State.{Process, of_living}
use Rattle.pf_machine.specs.Processes.{exit}
use Rattle.pf_tables.specs.Rows as rows
use Rattle.pf_tables.specs.Tables.{Begun}
use Rattle.pf_tables.proofs.ProcessTableReady.{lives, lives_not, place_of}
use Rattle.pf_tables.proofs.TablesShown.{shown}

module _ {limits : Limits} (ps : ProcessRows) (ds : DescriptionRows) (pipes : PipeRows) {files : Files}
    {files_made : ℕ} {n : Namespace}
    (view : record { limits = limits; state = state_of ps ds pipes files files_made } ≡ n) (pid : ℕ) where
  -- who exits waits in no call any more
  pub begins : {who : rows.Process} → process_in ps pid ≡ Ok who → (new : Namespace)
      → new ≡ record n { state = awoken n.state pid } → new.state ≡ sweep itself new.state → Begun n new pid
  begins {who} is new now still = record {
    some = counted pid is;
    p = process_of who;
    lives = rw (← view) (lives ps pid who is);
    namespace = now;
    swept = still;
    bare = record {
      p = woken (process_of who);
      stands =
          ap (λ (m : Namespace). at m.state.processes (pid - 1)) now
          ∙ at-put_same n.state.processes (pid - 1) (option_map woken (at n.state.processes (pid - 1)))
          (at_within n.state.processes (pid - 1) (process_of who) stood) ∙ ap (option_map woken) stood;
      awake = over_none (process_of who).parked (process_of who);
      bare = λ fd l. absurd (omega (arith, l));
    };
  }
    where
      counted : (m : ℕ) → process_in ps m ≡ Ok who → 0 < m
      counted zero h = absurd (cc)
      counted (suc i) h = omega arith

      stood : at n.state.processes (pid - 1) ≡ Some (process_of who)
      stood = rw (← view) (shown process_of ps (pid - 1) who (place_of ps pid who is))

      over_none : (o : Option (Call ℕ)) (p : Process ℕ) → (over o p).parked ≡ None
      over_none None p = refl
      over_none (Some (Opening m kept)) p = refl
      over_none (Some (Moving call)) p = refl

  -- or there is nobody
  pub begins_not : (e : Errno) → process_in ps pid ≡ Err e → of_living n.state pid (λ p. exit n.state pid) ≡ Err e
  begins_not e is =
      rw (← view) (ap (λ r. r >>= (λ p. exit (state_of ps ds pipes files files_made) pid)) (lives_not ps pid e is))
