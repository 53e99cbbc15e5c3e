-- A call is over, or begins: what the tables keep and show of it.

use Rattle.std.proofs.Common.{◌≡◌, ℕ, zero, suc, ◌-◌, false, List, [], ◌∷◌, set, map, Option, Some, None, IsOk, Ok}
use Rattle.std.proofs.Common.{refl, sym, ap, subst, ◌∙◌, arith}
use Rattle.pf_tables.proofs.TablesShown.{shown_change}
use Rattle.pf_tables.proofs.Common.{option_map, option_and_then, Files, Limits, at, put_at, change_at, first_free}
use Rattle.pf_tables.proofs.Common.{◌>>=◌, or_refuse, itself, ready, waiting, sweep, EINVAL, ESRCH, UserPages}
use Rattle.pf_tables.proofs.Common.{Open, Namespace, ProcessRows}
use Rattle.pf_tables.proofs.Common.{DescriptionRows, PipeRows, Key, Process, made_by, process_in, ready_in}
use Rattle.pf_tables.proofs.Common.{process_of, state_of, TiedWith, Tied, Whole, over, woken, awoken, map-set, set-set}
use Rattle.pf_tables.proofs.Common.{at-map, at_within, at-put_same, at-first_free, first_free-map, IsSpare}
use Rattle.pf_machine.specs.Calls as calls
use Rattle.pf_machine.specs.State as machine
use Rattle.pf_machine.specs.Machine.{call_of as machine_call_of}
use Rattle.pf_machine.specs.State.{living, change_process}
use Rattle.pf_parked.specs.declared.call.Call.TheVariants.{Read, Write, Cross}
use Rattle.pf_tables.specs.Rows as rows
use Rattle.pf_tables.specs.Rows.{Call, call_of}
use Rattle.pf_tables.specs.Tables.{Wakes, is_open, waits_in_open}
use Rattle.pf_tables.specs.Told.{waits_in}
use Rattle.pf_tables.proofs.Refusals.{same_ok}
use Rattle.pf_tables.proofs.ProcessTableReady.{found_in, living_shown, ready_shown, place_of, place_is, is_awake}
use Rattle.pf_tables.proofs.TablesTied.{moved, put}

-- Who lives for the machine lives in the tables, and who is ready for it is ready there

module _ {limits : Limits} (ps : ProcessRows) (ds : DescriptionRows) (pipes : PipeRows) {files : Files} {files_made : ℕ}
    {n : Namespace} (view : record { limits = limits; state = state_of ps ds pipes files files_made } ≡ n)
    (pid : ℕ) where
  who : IsOk (living n.state pid) → (p : Process) × (process_in ps pid ≡ Ok p)
  who lives = found_in (process_in ps pid) (subst IsOk (living_shown ps pid) (rw (← view) at lives))

  ready_row : IsOk (ready n.state pid) → (p : Process) × (ready_in ps pid ≡ Ok p)
  ready_row readies = found_in (ready_in ps pid) (subst IsOk (ready_shown ps pid) (rw (← view) at readies))

  -- what the machine sees of the call
  pub call-shown : {o : Option (Call Key)} → o ≡ rows.call_in ps pid
      → option_map call_of o ≡ machine_call_of n.state pid
  call-shown is =
      ap (option_map call_of) is ∙ by_pid pid ∙ ap (λ (m : Namespace). machine_call_of m.state pid) view
    where
      by_row : (x : Option Process) → option_map call_of (option_and_then (λ (p : Process). p.parked) x)
          ≡ option_and_then (λ (p : machine.Process ℕ). p.parked) (option_map process_of x)
      by_row None = refl
      by_row (Some p) = refl

      by_pid : (m : ℕ) → option_map call_of (rows.call_in ps m)
          ≡ machine_call_of (state_of ps ds pipes files files_made) m
      by_pid zero = refl
      by_pid (suc i) =
          by_row (at ps i) ∙ ap (option_and_then (λ (p : machine.Process ℕ). p.parked)) (sym (at-map process_of ps i))

-- what the machine sees of a process whose call is over
woken_shown : (p : Process) → process_of (rows.woken p) ≡ woken (process_of p)
woken_shown p = by_call p.parked
  where
    by_call : (o : Option (Call Key)) → process_of (rows.over o p) ≡ over (option_map call_of o) (process_of p)
    by_call (Some (Open key kept)) =
        ap (λ xs. record { cred = p.cred; descriptors = xs; parked = None })
        (map-set (option_map (λ (k : Key). k.serial)) p.descriptors (first_free p.descriptors) (Some key)
        ∙ ap (λ m. put_at (map (option_map (λ (k : Key). k.serial)) p.descriptors) m key.serial)
        (sym (first_free-map (λ (k : Key). k.serial) p.descriptors)))
    by_call _ = refl

module _ (ps : ProcessRows) (ds : DescriptionRows) (pipes : PipeRows) (t : Tied ps ds pipes) (i : ℕ) (p : Process)
    (stands : at ps i ≡ Some p) where
  abbrev asleep : Process
  asleep = record p { parked = None }

  -- the call's key comes into the hand
  in_hand : TiedWith (rows.holding (made_by p.parked) []) [] (put_at ps i asleep) ds pipes
  in_hand = moved [] i 0 p asleep stands (omega arith) None refl t

  pub woken-tied : IsSpare p → Tied (put_at ps i (rows.woken p)) ds pipes
  woken-tied spare = by_call p.parked refl in_hand
    where
      by_call : (o : Option (Call Key)) → p.parked ≡ o
          → TiedWith (rows.holding (made_by o) []) [] (put_at ps i asleep) ds pipes
          → Tied (put_at ps i (rows.over o p)) ds pipes
      by_call (Some (Open key kept)) e u =
          subst (λ x. Tied x ds pipes) (set-set ps i (Some asleep) (Some (rows.over (Some (Open key kept)) p)))
          (put i (first_free p.descriptors) asleep
          (at-put_same ps i (Some asleep) (at_within ps i p stands)) (spare key kept e) key
          (at-first_free p.descriptors) u)
      by_call _ e u = u

module _ {charges : UserPages} {limits : Limits} {es : List (ℕ × Key)} {ps : ProcessRows} {ds : DescriptionRows}
    {pipes : PipeRows} {files : Files} {files_made : ℕ} (whole : Whole charges es ps ds pipes) {n : Namespace}
    (view : record { limits = limits; state = state_of ps ds pipes files files_made } ≡ n) (pid : ℕ) where
  -- a process changes
  module _ {p : Process} (there : at ps (pid - 1) ≡ Some p) (change : Process → Process) {qs : ProcessRows}
      (are : qs ≡ change_at change ps (pid - 1)) where
    put_is : qs ≡ put_at ps (pid - 1) (change p)
    put_is = are ∙ ap (λ o. set ps (pid - 1) (option_map change o)) there

    changed-whole : Tied (put_at ps (pid - 1) (change p)) ds pipes → Whole charges es qs ds pipes
    changed-whole tied = record {
      kept = record { tied = rw put_is tied; charged = whole.kept.charged };
      filed = whole.filed;
    }

    changed-namespace : (to : machine.Process ℕ → machine.Process ℕ) → process_of (change p) ≡ to (process_of p)
        → record { limits = limits; state = state_of qs ds pipes files files_made }
        ≡ record n { state = change_process to n.state pid }
    changed-namespace to shown =
        ap (λ x. record { limits = limits; state = state_of x ds pipes files files_made }) put_is
        ∙ ap (λ xs. record {
          limits = limits;
          state = record (state_of ps ds pipes files files_made) { processes = xs };
        }) (shown_change process_of to ps (pid - 1) p (change p) there shown)
        ∙ ap (λ (m : Namespace). record m { state = change_process to m.state pid }) view

  -- its call is over
  module _ (lives : IsOk (living n.state pid)) (spare : (p : Process) → process_in ps pid ≡ Ok p → IsSpare p)
      {qs : ProcessRows} (are : qs ≡ change_at rows.woken ps (pid - 1)) where
    w : (p : Process) × (process_in ps pid ≡ Ok p)
    w = who ps ds pipes view pid lives

    stands : at ps (pid - 1) ≡ Some w.0
    stands = place_of ps pid w.0 w.1

    pub awoken-whole : Whole charges es qs ds pipes
    awoken-whole =
        changed-whole stands rows.woken are
        (woken-tied ps ds pipes whole.kept.tied (pid - 1) w.0 stands (spare w.0 w.1))

    pub awoken-namespace : record { limits = limits; state = state_of qs ds pipes files files_made }
        ≡ record n { state = awoken n.state pid }
    awoken-namespace = changed-namespace stands rows.woken are woken (woken_shown w.0)

  -- or one begins that is no open's, by which no key goes or comes
  module _ (is_ready : IsOk (ready n.state pid)) (call : Call Key) (moving : made_by (Some call) ≡ None)
      {qs : ProcessRows} (are : qs ≡ change_at (rows.with_call (Some call)) ps (pid - 1)) where
    r : (p : Process) × (ready_in ps pid ≡ Ok p)
    r = ready_row ps ds pipes view pid is_ready

    there : at ps (pid - 1) ≡ Some r.0
    there = place_is ps pid r.0 r.1

    pub parked-whole : Whole charges es qs ds pipes
    parked-whole =
        changed-whole there (rows.with_call (Some call)) are
        (subst (λ o. TiedWith (rows.holding o []) [] (put_at ps (pid - 1) (rows.with_call (Some call) r.0)) ds pipes)
        (ap made_by (is_awake ps pid r.0 r.1))
        (moved [] (pid - 1) 0 r.0 (rows.with_call (Some call) r.0) there (omega arith) None
        (ap (λ o. o ∷ r.0.descriptors) moving) whole.kept.tied))

    pub parked-namespace : record { limits = limits; state = state_of qs ds pipes files files_made }
        ≡ waits_in (Some (call_of call)) n pid
    parked-namespace = changed-namespace there (rows.with_call (Some call)) are (waiting (Some (call_of call))) refl

-- Who waits in a transfer is woken

-- a call that is no open moves bytes
moves_bytes : (call : Call Key) → is_open (call_of call) ≡ false → made_by (Some call) ≡ None
moves_bytes (Open key kept) e = absurd (cc)
moves_bytes (Read fd n) e = refl
moves_bytes (Write fd write) e = refl
moves_bytes (Cross crossing source sink n) e = refl

-- a process that waits in no open waits in a transfer
in_transfer : (o : Option (machine.Process ℕ))
    → (or_refuse ESRCH o >>= (λ p. or_refuse EINVAL p.parked >>= (λ c. Ok (is_open c)))) ≡ Ok false
    → (c : calls.Call ℕ) × (option_and_then (λ (p : machine.Process ℕ). p.parked) o ≡ Some c) × (is_open c ≡ false)
in_transfer None h = absurd (cc)
in_transfer (Some p) h = by_call p.parked h
  where
    by_call : (q : Option (calls.Call ℕ)) → (or_refuse EINVAL q >>= (λ c. Ok (is_open c))) ≡ Ok false
        → (c : calls.Call ℕ) × (q ≡ Some c) × (is_open c ≡ false)
    by_call None h = absurd (cc)
    by_call (Some c) h = (c, refl, same_ok h)

-- the call that was given out is that one
pub given_out : {old new : Namespace} (pid : ℕ) (o : Option (Call Key))
    → option_map call_of o ≡ machine_call_of old.state pid → waits_in_open old.state pid ≡ Ok false
    → new ≡ record old { state = awoken old.state pid } → old.state ≡ sweep itself old.state
    → new.state ≡ sweep itself new.state → Wakes old new pid (Ok o)
given_out {old} {new} pid o is waits namespace still swept =
    let w = in_transfer (machine.process old.state pid) waits in by_given w.0 w.1 w.2 o (is ∙ w.1)
  where
    by_given : (c : calls.Call ℕ) → machine_call_of old.state pid ≡ Some c → is_open c ≡ false
        → (o : Option (Call Key)) → option_map call_of o ≡ Some c → Wakes old new pid (Ok o)
    by_given c waited moves None e = absurd (cc)
    by_given c waited moves (Some call) e =
        let same : call_of call ≡ c = cc in
        record {
          waited = waited ∙ ap Some (sym same);
          moves = moves_bytes call (ap is_open same ∙ moves);
          namespace = namespace;
          still = still;
          swept = swept;
        }
