-- A process under the lowest free pid: what is told of any, and one with no descriptors.

use Rattle.std.proofs.Common.{◌≡◌, ℕ, zero, suc, ◌+◌, ◌-◌, ◌<◌, ◌≤◌, true, not, nat_le, List, Option, Some, None}
use Rattle.std.proofs.Common.{Result, Ok, Err, IsOk, refl, sym, ap, ◌∙◌, arith}
use Rattle.pf_machine.specs.State.{vacant}
use Rattle.pf_tables.proofs.Common.{option_map, Limits, MAX_PROCESSES, MAX_DESCRIPTORS, Cred, Errno, EINVAL, Files, at}
use Rattle.pf_tables.proofs.Common.{put_at, first_free, ◌>>◌, refuse_if, State, Outcome, with_process, told, Window}
use Rattle.pf_tables.proofs.Common.{Namespace, ProcessRows, DescriptionRows, PipeRows, Key, Process, keys_of}
use Rattle.pf_tables.proofs.Common.{process_of, processes_of, descriptions_of, state_of, Tied, Makes, map-set}
use Rattle.pf_tables.proofs.Common.{vacant-map, at-first_free, first_free-map}
use Rattle.pf_base.specs.Credentials.{is_valid}
use Rattle.pf_base.specs.declared.errno.Errno.TheVariants.{EAGAIN}
use Rattle.pf_base.specs.declared.step.Reply.TheVariants.{Pid}
use Rattle.pf_machine.specs.Processes.{spawn, born}
use Rattle.pf_tables.proofs.ProcessTableEmpty.{vacant_at, length-vacant, made}
use Rattle.pf_tables.proofs.Refusals.{too_high, low_enough}
use Rattle.pf_tables.proofs.TablesSettled.{makes}

-- with these credentials and no descriptors
abbrev pub spawned : Cred → Process
spawned cred = record { cred = cred; descriptors = vacant MAX_DESCRIPTORS; parked = None }

bare : (cred : Cred) (m : ℕ) → at (keys_of (spawned cred)) m ≡ None
bare cred zero = refl
bare cred (suc m) = vacant_at MAX_DESCRIPTORS m

module _ {ps : ProcessRows} {ds : DescriptionRows} {pipes : PipeRows} (t : Tied ps ds pipes) {limits : Limits}
    {files : Files} {files_made : ℕ} {n : Namespace}
    (view : record { limits = limits; state = state_of ps ds pipes files files_made } ≡ n) {i : ℕ}
    (lowest : i ≡ first_free ps) where
  abbrev s : State Window ℕ
  s = state_of ps ds pipes files files_made

  -- a call that puts a process down
  module _ (p : Process) (call : State Window ℕ → Result (Outcome Window ℕ) Errno)
      (is : call s ≡ born s (process_of p)) where
    abbrev puts : ℕ → Result (Outcome Window ℕ) Errno
    puts m = Ok (told (with_process s (m + 1) (process_of p)) (Pid (m + 1)))

    -- it goes by the test of the lowest free pid
    call_is : call s ≡ (refuse_if (nat_le MAX_PROCESSES i) EAGAIN >> puts i)
    call_is =
        is ∙ ap (λ m. refuse_if (nat_le MAX_PROCESSES m) EAGAIN >> puts m) (first_free-map process_of ps ∙ sym lowest)

    pub no_pid : MAX_PROCESSES ≤ i → call n.state ≡ Err EAGAIN
    no_pid past = rw (← view) (call_is ∙ too_high _ _ _ _ past)

    module _ (within : i < MAX_PROCESSES) where
      goes : call s ≡ puts i
      goes = call_is ∙ low_enough _ _ _ _ within

      pub some_pid : IsOk (call n.state)
      some_pid = rw (← view, goes) refl

      pub is_born : {qs : ProcessRows} {es : DescriptionRows} → Tied qs es pipes → qs ≡ put_at ps i p
          → descriptions_of es ≡ descriptions_of ds
          → Makes n (record { limits = limits; state = state_of qs es pipes files files_made }) (call n.state)
          (Pid (i + 1))
      is_born tied put named =
          let place : i ≡ i + 1 - 1 = omega arith in
          let all =
          ap processes_of put ∙ map-set (option_map process_of) ps i (Some p)
          ∙ ap (λ m. put_at (processes_of ps) m (process_of p)) place in
          makes tied files files_made view refl call (Pid (i + 1))
          (goes ∙ (λ j. Ok (told (record s { processes = sym all j; descriptions = sym named j }) (Pid (i + 1)))))

  -- a spawn
  module _ (cred : Cred) (valid : is_valid cred ≡ true) where
    spawn_is : spawn s cred ≡ born s (process_of (spawned cred))
    spawn_is =
        ap (λ b. refuse_if (not b) EINVAL >> born s (record (process_of (spawned cred)) {
          descriptors = vacant MAX_DESCRIPTORS;
        })) valid
        ∙ ap (λ xs. born s (record (process_of (spawned cred)) { descriptors = xs }))
        (sym (vacant-map (λ (k : Key). k.serial) MAX_DESCRIPTORS))

    pub no_spawn : MAX_PROCESSES ≤ i → spawn n.state cred ≡ Err EAGAIN
    no_spawn = no_pid (spawned cred) (λ t. spawn t cred) spawn_is

    module _ (within : i < MAX_PROCESSES) where
      pub may_spawn : IsOk (spawn n.state cred)
      may_spawn = some_pid (spawned cred) (λ t. spawn t cred) spawn_is within

      module _ {groups : List ℕ} (copied : groups ≡ cred.groups) {ks : List (Option Key)}
          (none : ks ≡ vacant MAX_DESCRIPTORS) {qs : ProcessRows}
          (put : qs ≡ put_at ps i (record {
            cred = record cred { groups = groups };
            descriptors = ks;
            parked = None;
          })) where
        put_is : qs ≡ put_at ps i (spawned cred)
        put_is =
            put ∙ (λ j. put_at ps i (record {
              cred = record cred { groups = copied j };
              descriptors = none j;
              parked = None;
            }))

        pub spawned-tied : Tied qs ds pipes
        spawned-tied =
            rw put_is
            (made ps ds pipes t i within (ap (at ps) lowest ∙ at-first_free ps) (spawned cred) (bare cred)
            (length-vacant Key MAX_DESCRIPTORS))

        pub spawns : Makes n (record { limits = limits; state = state_of qs ds pipes files files_made })
            (spawn n.state cred) (Pid (i + 1))
        spawns = is_born (spawned cred) (λ t. spawn t cred) spawn_is within spawned-tied put_is refl
