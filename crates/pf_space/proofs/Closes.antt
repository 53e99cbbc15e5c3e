-- Close and Exit over the door: what the tables let go at their own state is let go of what that means, where the
-- frames of a pipe that went are given back; and an exit on its way.

use Rattle.std.proofs.Common.{◌≡◌, ℕ, ◌+◌, ◌-◌, ◌<◌, ◌≤◌, List, [], map, length, length-set, Option, Some, None, Result}
use Rattle.std.proofs.Common.{Ok, IfSome, refl, sym, ap, subst, ◌∙◌, inl, inr, arith}
use Rattle.std.specs.Option.{option_and_then}
use Rattle.std.proofs.lemmas.Bool.{cases_eq, cases_lt}
use Rattle.std.proofs.lemmas.List.{map-set, set-set}
use Rattle.pf_space.proofs.Common.{option_map, Limits, Errno, call, at, change_at, Segment, ◌>>=◌, itself, State}
use Rattle.pf_space.proofs.Common.{Process, Outcome, sweep, Live, Window, Namespace, meaning, Owns, Told, settled}
use Rattle.pf_base.specs.declared.TheConstants.{MAX_DESCRIPTORS}
use Rattle.pf_base.specs.declared.step.Reply.TheVariants.{Num}
use Rattle.pf_base.specs.declared.step.Step.TheVariants as steps
use Rattle.pf_machine.specs.Counts.{named_in, names_of}
use Rattle.pf_machine.specs.Descriptors.{close, without_descriptor}
use Rattle.pf_machine.specs.Numbered.{clear_at}
use Rattle.pf_machine.specs.Processes.{exit}
use Rattle.pf_machine.specs.State.{of_ready, without_process, done}
use Rattle.pf_machine.specs.State as machine
use Rattle.pf_machine.proofs.ExitLaws.{sum_of-falls}
use Rattle.pf_machine.proofs.NaturalCalls.{close-call}
use Rattle.pf_machine.proofs.NumberedLaws.{at_past, at_within, at-put_same, at-put_other}
use Rattle.pf_machine.proofs.SweepLaws.{with_processes, sweep-sweep}
use Rattle.pf_ring.specs.Ring.{Ring}
use Rattle.pf_ring.specs.Table.{Joined}
use Rattle.pf_ring.specs.Windows.{Keeps, Stands}
use Rattle.pf_ring.proofs.TableLaws.{no_source}
use Rattle.pf_tables.specs.Meaning.{pipe_meaning, ring_or, rings_of}
use Rattle.pf_tables.specs.Rows.{Pipe, pipe_shown}
use Rattle.pf_tables.specs.Tables.{descriptor, emptied, woken, Begun, Closes, IsBare, Leaves, Makes}
use Rattle.pf_tables.specs.Told.{Becomes}
use Rattle.pf_tables.proofs.MeaningLaws.{pipes-left, pipes-without, settled-meaning, sweep-meaning, woken-left}
use Rattle.pf_tables.proofs.OwnsLaws.{joined_gone, others_written, stands_at}
use Rattle.pf_space.proofs.Books.{made-as}

-- What went

module _ {f : Live} {old new : Namespace} {s : State Window ℕ} (owns : Owns f old) where
  -- the slots of a pipe that went stand in the frames
  pub gone_stands : (gone : Option Pipe) → Leaves old new s gone → IfSome gone (λ p. Stands f p.ring.segments)
  gone_stands None l = tt
  gone_stands (Some p) l = stands_at f old.state l.gone.0 (pipe_shown p) owns.joined l.gone.2

  -- and when they are given back, the pipes that are left mean what they meant
  pub cleared : {g : Live} (gone : Option Pipe) → Leaves old new s gone
      → IfSome gone (λ p. Keeps [] p.ring.segments [] f g) → (gone ≡ None → g ≡ f) → Becomes f g old new (meaning f s)
  cleared None l keeps same = rw (same refl) (pipes-left f old new s l.limits l.gone l.state owns)
  cleared {g} (Some p) l keeps same =
      let bare : Ring = record { capacity = p.ring.capacity; segments = [] } in
      let none = no_source (rings_of old.state) in
      record {
        owns = record {
          joined =
              subst (λ xs. Joined g (map ring_or xs)) (sym l.gone.3)
              (joined_gone f g old.state l.gone.0 (pipe_shown p) bare [] none owns.joined l.gone.2 keeps refl);
          reserve = ap (λ (x : Limits). x.reserve) l.limits ∙ owns.reserve ∙ sym keeps.reservation;
        };
        limits = l.limits;
        state =
            ap (λ xs. record (meaning f new.state) { pipes = xs })
            (subst (λ xs. map (option_map (pipe_meaning g)) xs ≡ map (option_map (pipe_meaning f)) xs) (sym l.gone.3)
            (pipes-without f g old.state.pipes l.gone.0 (others_written f g old.state l.gone.0 (pipe_shown p) bare []
            none owns.joined l.gone.2 keeps)
            ∙ sym (map-set (option_map (pipe_meaning f)) old.state.pipes l.gone.0 None)))
            ∙ ap (meaning f) l.state ∙ sym (sweep-meaning f s);
      }

-- a call that lets things go was made
pub leaves : {f g : Live} {old new : Namespace} {s : State Segment ℕ} {call : Result (Outcome Segment ℕ) Errno}
    → Becomes f g old new s → call ≡ Ok (done s 0) → Told f g old new (Ok (Num 0)) call
leaves b is = record {
  owns = b.owns;
  limits = b.limits;
  says = ap settled is ∙ (λ i. Ok (record { state = sym b.state i; reply = Num 0 }));
}

-- a close
pub closed : {f g : Live} {tables old new : Namespace} → tables ≡ old → Owns f old → (gone : Option Pipe) (pid fd : ℕ)
    → Closes tables new (Ok gone) (of_ready tables.state pid (λ p. close tables.state pid p fd))
    → IfSome gone (λ p. Keeps [] p.ring.segments [] f g) → (gone ≡ None → g ≡ f)
    → Told f g old new (Ok (Num 0)) (call old.limits (meaning f old.state) (steps.Close pid fd))
closed {f} {tables = tables} view owns gone pid fd c keeps same =
    rw (← view) (leaves (cleared (rw (← view) at owns) gone c.2 keeps same)
    (made-as f tables.limits tables.state (steps.Close pid fd) _
    (λ shows. close-call shows itself tables.limits tables.state pid fd) c.1))

-- An exit on its way

-- descriptors that the process doesn't have are passed over
passed : {s : State Window ℕ} {i n : ℕ} → IsBare s i n → (next : ℕ)
    → ((fd : ℕ) → n ≤ fd → fd < next → descriptor s i fd ≡ None) → IsBare s i next
passed {i = i} {n} b next none = record {
  p = b.p;
  stands = b.stands;
  awake = b.awake;
  bare = λ fd l. elim (cases_lt fd n) [
    | inl below ↦ b.bare fd below
    | inr from ↦ sym (ap (option_and_then (λ (p : Process ℕ). at p.descriptors fd)) b.stands) ∙ none fd from l
  ];
}

-- and one more is emptied
bared : (m o : Namespace) {i fd : ℕ} → IsBare m.state i fd
    → o.state.processes ≡ change_at (without_descriptor fd) m.state.processes i → IsBare o.state i (fd + 1)
bared m o {i} {fd} b is = record {
  p = without_descriptor fd b.p;
  stands =
      ap (λ ps. at ps i) is
      ∙ at-put_same m.state.processes i (option_map (without_descriptor fd) (at m.state.processes i))
      (at_within m.state.processes i b.p b.stands) ∙ ap (option_map (without_descriptor fd)) b.stands;
  awake = b.awake;
  bare = λ d l. elim (cases_eq d fd) [
    | inl same ↦ ap (at (clear_at b.p.descriptors fd)) same ∙ at-cleared b.p.descriptors fd
    | inr differs ↦ at-put_other b.p.descriptors fd d None differs ∙ b.bare d (omega (arith, l, differs))
  ];
}
  where
    at-cleared : (xs : List (Option ℕ)) (n : ℕ) → at (clear_at xs n) n ≡ None
    at-cleared xs n = elim (cases_lt n (length xs)) [
      | inl l ↦ at-put_same xs n None l
      | inr past ↦ at_past (clear_at xs n) n (omega (arith, length-set xs n None, past))
    ]

-- so many of its descriptors are gone; and where the process goes too, as much is left as it leaves of the namespace
-- before
pub record Exits (f : Live) (old : Namespace) (pid fd : ℕ) (g : Live) (m : Namespace) : Type 0 where
  pub owns : Owns g m
  pub limits : m.limits ≡ old.limits
  pub ends : sweep itself (without_process (meaning g m.state) pid)
      ≡ sweep itself (without_process (meaning f old.state) pid)
  pub bare : IsBare m.state (pid - 1) fd

-- what a process was is forgotten when it goes
forgotten : (pid : ℕ) (g h : Live) (m o : Namespace) (change : Process ℕ → Process ℕ)
    → Becomes g h m o (machine.change_process change (meaning g m.state) pid)
    → sweep itself (without_process (meaning h o.state) pid) ≡ sweep itself (without_process (meaning g m.state) pid)
forgotten pid g h m o change b =
    let s = meaning g m.state in
    let ps = change_at change s.processes (pid - 1) in
    ap (λ u. sweep itself (without_process u pid)) b.state
    ∙ sweep-sweep itself s ps (clear_at ps (pid - 1))
    (λ k. sum_of-falls (λ p. named_in itself k (names_of p)) ps (pid - 1) None (omega arith))
    ∙ ap (λ qs. sweep itself (with_processes s qs))
    (set-set s.processes (pid - 1) (option_map change (at s.processes (pid - 1))) None)

pub begun : {f : Live} {old m : Namespace} {pid : ℕ} → Begun old m pid → Owns f old → (next : ℕ)
    → ((fd : ℕ) → 0 ≤ fd → fd < next → descriptor m.state (pid - 1) fd ≡ None) → Exits f old pid next f m
begun {f} {old} {m} {pid} b owns next none =
    let w = woken-left f old m pid b.namespace b.swept owns in
    record {
      owns = w.owns;
      limits = w.limits;
      ends = forgotten pid f f old m woken w;
      bare = passed b.bare next none;
    }

module _ {f : Live} {old : Namespace} {pid fd : ℕ} {g : Live} {m : Namespace} (x : Exits f old pid fd g m) where
  pub one_more : {h : Live} {o : Namespace} → Becomes g h m o (emptied (meaning g m.state) (pid - 1) fd)
      → Exits f old pid (fd + 1) h o
  one_more {h} {o} b = record {
    owns = b.owns;
    limits = b.limits ∙ x.limits;
    ends = forgotten pid g h m o (without_descriptor fd) b ∙ x.ends;
    bare = bared m o x.bare (ap (λ (s : State Segment ℕ). s.processes) b.state);
  }

  pub one_more_next : {h : Live} {o : Namespace} → Becomes g h m o (emptied (meaning g m.state) (pid - 1) fd)
      → (next : ℕ) → ((d : ℕ) → fd + 1 ≤ d → d < next → descriptor o.state (pid - 1) d ≡ None)
      → Exits f old pid next h o
  one_more_next b next none =
      let y = one_more b in
      record { owns = y.owns; limits = y.limits; ends = y.ends; bare = passed y.bare next none }

  pub all_bare : MAX_DESCRIPTORS ≤ fd → IsBare m.state (pid - 1) MAX_DESCRIPTORS
  all_bare past = passed x.bare MAX_DESCRIPTORS (λ d from l. absurd (omega (arith, from, l, past)))

  -- the process goes
  pub exited : {begun o : Namespace} → Begun old begun pid → Makes m o (exit m.state pid) (Num 0)
      → Told f g old o (Ok (Num 0)) (call old.limits (meaning f old.state) (steps.Exit pid))
  exited {o = o} b made =
      let made_is : ◌≡◌ {A = Result (Outcome Window ℕ) Errno} (Ok (done (without_process m.state pid) 0))
      (Ok (done o.state 0)) = made.is in
      let is : done (without_process m.state pid) 0 ≡ done o.state 0 = cc in
      leaves
      (record {
        owns = made.owned g x.owns;
        limits = made.limits ∙ x.limits;
        state =
            settled-meaning g o.state made.swept
            ∙ ap (λ (z : Outcome Window ℕ). sweep itself (meaning g z.state)) (sym is) ∙ x.ends;
      })
      (ap (λ r. r >>= (λ p. exit (meaning f old.state) pid)) b.lives)
