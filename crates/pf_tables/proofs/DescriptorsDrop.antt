-- What goes, at the state that the tables keep: a descriptor with whatever nobody can reach any more, and a process.

use Rattle.std.proofs.Common.{◌≡◌, ℕ, zero, suc, ◌-◌, ◌<◌, ◌≤◌, List, set, Option, Some, None, Result, Ok, Err, refl}
use Rattle.std.proofs.Common.{ap, sym, ◌∙◌, subst, arith, inl, inr}
use Rattle.pf_tables.proofs.Common.{option_map, Files, Limits, at, clear_at, State, Outcome, of_ready, done}
use Rattle.pf_tables.proofs.Common.{MAX_PROCESSES, MAX_DESCRIPTORS, Errno, Num, Window, UserPages, charged_to, Charges}
use Rattle.pf_tables.proofs.Common.{Namespace, key_in, pipe_of, ProcessRows, DescriptionRows, PipeRows, Key, Process}
use Rattle.pf_tables.proofs.Common.{keys_of, process_of, processes_of, pipes_of, state_of, Tied, Kept, Whole, LetsGo}
use Rattle.pf_tables.proofs.Common.{Makes, cases_lt, map-set, at-map, at_past, at_within, emptied, Left}
use Rattle.pf_machine.specs.State as machine
use Rattle.pf_machine.specs.Descriptors.{close, without_descriptor}
use Rattle.pf_machine.specs.Processes.{exit}
use Rattle.pf_limits.proofs.SumLaws.{covers, gone as refunded}
use Rattle.pf_tables.specs.Rows as rows
use Rattle.pf_tables.specs.Tables.{IsBare, Leaves}
use Rattle.pf_tables.proofs.ProcessTableReady.{place_is}
use Rattle.pf_tables.proofs.DescriptorsNamed.{Has, named_is, names_nothing}
use Rattle.pf_tables.proofs.TablesShown.{was, shown}
use Rattle.pf_tables.proofs.TablesSettled.{makes}
use Rattle.pf_tables.proofs.ProcessTableEmpty.{gone}

-- A pipe went: its pages are among its owner's, and are charged no more

module _ {charges : UserPages} {ps : ProcessRows} {ds : DescriptionRows} {pipes : PipeRows}
    (k : Kept charges ps ds pipes) (m : ℕ) (p : rows.Pipe)
    (there : at (pipes_of pipes) m ≡ Some (pipe_of (0, p))) where
  pub gone_covered : (owner pages : ℕ) → owner ≡ p.owner → pages ≡ p.ring.capacity → pages ≤ charged_to charges owner
  gone_covered owner pages o e =
      let least = covers (λ (q : machine.Pipe Window). q.owner) (λ (q : machine.Pipe Window). q.queue.capacity) charges
      (pipes_of pipes) m _ k.charged there in
      omega (arith, least, e, ap (charged_to charges) o)

  pub gone_kept : {ps' : ProcessRows} {ds' : DescriptionRows} {pipes' : PipeRows} → Tied ps' ds' pipes'
      → pipes_of pipes' ≡ clear_at (pipes_of pipes) m → (charges' : UserPages) (owner pages : ℕ) → owner ≡ p.owner
      → pages ≡ p.ring.capacity → Charges charges' charges owner pages → Kept charges' ps' ds' pipes'
  gone_kept tied left charges' owner pages o e refunds = record {
    tied = tied;
    charged = rw left
        (refunded (λ (q : machine.Pipe Window). q.owner) (λ (q : machine.Pipe Window). q.queue.capacity) charges
        charges' (pipes_of pipes) k.charged m _ there (rw (o, e) at refunds));
  }

-- A descriptor went

module _ {limits : Limits} (ps : ProcessRows) (ds : DescriptionRows) (pipes : PipeRows) {files : Files}
    {files_made : ℕ} {n : Namespace}
    (view : record { limits = limits; state = state_of ps ds pipes files files_made } ≡ n) where
  pub left_off : {i fd : ℕ} {ps' : ProcessRows} {ds' : DescriptionRows} {pipes' : PipeRows}
      → Left ps ds pipes ps' ds' pipes' i fd → (pipe : Option rows.Pipe)
      → LetsGo pipe_of (pipes_of pipes) (pipes_of pipes') pipe → {after : Limits} → limits ≡ after
      → Leaves n (record { limits = after; state = state_of ps' ds' pipes' files files_made }) (emptied n.state i fd)
      pipe
  left_off {i} {fd} {ps'} {ds'} {pipes'} l pipe lets {after} same =
      rw (← view) (record { limits = sym same; state = l.state files files_made; gone = lets })

  -- the machine's close, from what the tables find
  module _ (pid fd : ℕ) where
    abbrev closes : State Window ℕ → Result (Outcome Window ℕ) Errno
    closes s = of_ready s pid (λ q. close s pid q fd)

    pub closed_is : {k : Key} → Has ps pid fd k → closes n.state ≡ Ok (done (emptied n.state (pid - 1) fd) 0)
    closed_is w =
        let s = state_of ps ds pipes files files_made in
        rw (← view) (named_is ps pid fd _ w
        ∙ ap (λ o. Ok (done (record s {
          processes = set (processes_of ps) (pid - 1) (option_map (without_descriptor fd) o);
        }) 0))
        (sym (shown process_of ps (pid - 1) w.p (place_is ps pid w.p w.caller))))

    pub closed_not : {e : Errno} → key_in ps pid fd ≡ Err e → closes n.state ≡ Err e
    closed_not h = rw (← view) (names_nothing ps pid fd _ h)

-- A process that has no descriptors goes

module _ {charges : UserPages} {limits : Limits} {es : List (ℕ × Key)} {ps : ProcessRows} {ds : DescriptionRows}
    {pipes : PipeRows} {files : Files} {files_made : ℕ} (whole : Whole charges es ps ds pipes) {n : Namespace}
    (view : record { limits = limits; state = state_of ps ds pipes files files_made } ≡ n) (pid : ℕ)
    (b : IsBare n.state (pid - 1) MAX_DESCRIPTORS) {ps' : ProcessRows} (is : ps' ≡ clear_at ps (pid - 1)) where
  -- who it is in the tables
  w : (p : Process) × (at ps (pid - 1) ≡ Some p) × (process_of p ≡ b.p)
  w =
      was process_of ps (pid - 1) b.p
      (subst (λ (m : Namespace). at m.state.processes (pid - 1) ≡ Some b.p) (sym view) b.stands)

  none_was : {X Y : Type 0} (f : X → Y) (o : Option X) → option_map f o ≡ None → o ≡ None
  none_was f None h = refl
  none_was f (Some x) h = absurd (cc)

  bare_all : (m : ℕ) → at (keys_of w.0) m ≡ None
  bare_all zero =
      ap rows.made_by (none_was rows.call_of w.0.parked (ap (λ (q : machine.Process ℕ). q.parked) w.2 ∙ b.awake))
  bare_all (suc fd) = elim (cases_lt fd MAX_DESCRIPTORS) [
    | inl l ↦ none_was (λ (j : Key). j.serial) (at w.0.descriptors fd)
        (sym (at-map (λ (j : Key). j.serial) w.0.descriptors fd)
        ∙ ap (λ (q : machine.Process ℕ). at q.descriptors fd) w.2 ∙ b.bare fd l)
    | inr past ↦ at_past w.0.descriptors fd (omega (arith, whole.kept.tied.wide (pid - 1) w.0 w.1, past))
  ]

  i_in : pid - 1 < MAX_PROCESSES
  i_in = omega (arith, at_within ps (pid - 1) w.0 w.1, whole.kept.tied.places)

  vacated : Tied ps' ds pipes
  vacated = rw is (gone ps ds pipes whole.kept.tied (pid - 1) i_in w.0 w.1 bare_all)

  pub vacated-whole : Whole charges es ps' ds pipes
  vacated-whole = record { kept = record { tied = vacated; charged = whole.kept.charged }; filed = whole.filed }

  pub vacated-makes : Makes n (record { limits = limits; state = state_of ps' ds pipes files files_made })
      (exit n.state pid) (Num 0)
  vacated-makes =
      makes vacated files files_made view refl (λ s. exit s pid) (Num 0)
      (ap (λ qs. Ok (done (record (state_of ps ds pipes files files_made) { processes = qs }) 0))
      (sym (ap processes_of is ∙ map-set (option_map process_of) ps (pid - 1) None)))
