-- What an open of a FIFO leaves and tells, as the machine says it.

use Rattle.std.proofs.Common.{◌≡◌, ℕ, zero, suc, ◌+◌, ◌-◌, ◌^◌, ◌<◌, Bool, true, false, not, ◌&&◌, List, [], ◌∷◌, ◌++◌}
use Rattle.std.proofs.Common.{length, map, Option, Some, None, IsSome, Result, Ok, Err, IsOk, nat_eq, nat_le, nat_lt}
use Rattle.std.proofs.Common.{if◌then◌else◌, refl, sym, ap, subst, ◌∙◌, arith}
use Rattle.std.proofs.lemmas.Bool.{le-ltb, lt-leb}
use Rattle.pf_tables.proofs.TablesShown.{shown_change, shown}
use Rattle.pf_tables.proofs.Common.{option_map, lookup, ◌>>=◌, ◌>>◌, refuse_if, Files, Limits, Live, Joined, Window}
use Rattle.pf_tables.proofs.Common.{Opening, at, put_at, change_at, first_free, itself, State, Outcome, ready, of_ready}
use Rattle.pf_tables.proofs.Common.{with_descriptor, waiting, told, is_spent, Access, fifo_pipe, MAX_DESCRIPTORS, Errno}
use Rattle.pf_tables.proofs.Common.{readers, writers, find, EMFILE, ENFILE, Fault, Reply, Num, UserPages, Namespace}
use Rattle.pf_tables.proofs.Common.{ring_or, access_seen, before, counted, other_opens, Describes, Owns, ProcessRows}
use Rattle.pf_tables.proofs.Common.{DescriptionRows, PipeRows, Key, Process, Pipe, ready_in, process_of, description_of}
use Rattle.pf_tables.proofs.Common.{pipe_of, processes_of, state_of, Tied, Whole, Makes, Says, map-set, map_push}
use Rattle.pf_tables.proofs.Common.{length_push, length-map, first_free-map, one_if, Cred, EINVAL}
use Rattle.pf_base.specs.declared.TheConstants.{MAX_MADE}
use Rattle.pf_base.specs.declared.errno.Errno.TheVariants.{ENXIO}
use Rattle.pf_base.specs.declared.fault.Fault.TheVariants as faults
use Rattle.pf_base.specs.declared.meta.File.{File}
use Rattle.pf_machine.specs.State as machine
use Rattle.pf_machine.specs.State.{change_pipe}
use Rattle.pf_machine.specs.Attempts.{Waits, given, first}
use Rattle.pf_machine.specs.Opens as opens
use Rattle.pf_machine.specs.Opens.{is_waiting, openable, open_fifo, open_path}
use Rattle.pf_tables.specs.declared.tables.opens.Access.{Access as Stored}
use Rattle.pf_tables.specs.Opened.{end_of, taking, told_at, waits, lacks_readers, readers_at, HasFree, GetsPipe, IsFew}
use Rattle.pf_tables.specs.Opened.{fifo_capacity}
use Rattle.pf_tables.specs.Rows.{call_of}
use Rattle.pf_tables.proofs.Refusals.{same_ok}
use Rattle.pf_tables.proofs.ProcessTableReady.{readies, is_living}
use Rattle.pf_tables.proofs.OpensDescribe.{IsSided, admitted, opener, seated_is, entered-charged, entered-fifos}
use Rattle.pf_tables.proofs.OpensFind.{readers_are}
use Rattle.pf_tables.proofs.OpensPipe.{Stands, is_there, piped_well, stands, unpiped}
use Rattle.pf_tables.proofs.TablesSettled.{makes_over}
use Rattle.pf_walk.specs.Told.{Told as Answered}

-- a pipe keeps its ring
ring_stays : (xs : List (Option (machine.Pipe Window))) (n : ℕ) (x y : machine.Pipe Window) → at xs n ≡ Some x
    → y.queue ≡ x.queue → map ring_or (put_at xs n y) ≡ map ring_or xs
ring_stays [] n x y h e = refl
ring_stays (z ∷ zs) zero x y h e = ap (λ r. r ∷ map ring_or zs) (e ∙ sym (ap ring_or h))
ring_stays (z ∷ zs) (suc n) x y h e = ap (λ rs. ring_or z ∷ rs) (ring_stays zs n x y h e)

-- what may be opened is opened for a side at least
pub sided : (files : Files) (c : Cred) (path : List ℕ) (a : Access) {f : File} → openable files c path a ≡ Ok f
    → 0 < one_if a.reads + one_if a.writes
sided files c path a {f} h = by_sides a.reads a.writes _ h
  where
    by_sides : (r w : Bool) (rest : Result File Errno) → (refuse_if (not r && not w) EINVAL >> rest) ≡ Ok f
        → 0 < one_if r + one_if w
    by_sides false false rest h = absurd (cc)
    by_sides true w rest h = omega arith
    by_sides false true rest h = omega arith

-- what is done with the pipe that a FIFO has, or gets
abbrev go_on : State Window ℕ → ℕ → machine.Process ℕ → Access → opens.Found Window ℕ → Result (Outcome Window ℕ) Errno
go_on s pid q a found =
    first pid false (opens.open_pipe itself (length s.descriptions) found.pipe found.state pid q a found.pipe)

goes_well : (s : State Window ℕ) (pid : ℕ) (q : machine.Process ℕ) (a : Access) (found : opens.Found Window ℕ)
    → IsOk (go_on s pid q a found)
goes_well s pid q a found =
    let made = change_pipe (opens.counted a) (record found.state {
      descriptions = found.state.descriptions ++ Some (record
          { pipe = found.pipe; reads = a.reads; writes = a.writes; nonblocking = a.nonblock }) ∷ [];
    }) found.pipe in
    elim (is_waiting a (readers itself found.state found.pipe) (writers itself found.state found.pipe)) as (λ b.
    IsOk (first pid false (if b then Waits made
    (Opening (length s.descriptions) (opens.kept_by a (at found.state.pipes found.pipe)))
    else given made pid q (length s.descriptions)))) [
      | true ↦ refl
      | false ↦ refl
    ]

-- Once its pipe stands

module _ {limits : Limits} {files : Files} {files_made : ℕ} {ps : ProcessRows} {ds : DescriptionRows}
    {pipes pipes' : PipeRows} {charges' : UserPages} {es' : List (ℕ × Key)} {p : Process} {file : ℕ} {a : Stored}
    {k : Key} {q : Pipe} (x : Stands limits files files_made ps ds pipes pipes' charges' es' p file a k q) {pid fd : ℕ}
    {ps' : ProcessRows} {ds' : DescriptionRows} {reply : Reply}
    (z : Describes ps ps' ds ds' pid fd (end_of a k) (before a q) reply) (is : ready_in ps pid ≡ Ok p)
    (lowest : fd ≡ first_free p.descriptors) (within : fd < MAX_DESCRIPTORS) where
  abbrev after : PipeRows
  after = put_at pipes' k.serial (k.slot, counted a q)

  tied : Tied ps' ds' after
  tied = admitted after z is lowest within x.held

  opened-whole : Whole charges' es' ps' ds' after
  opened-whole = record {
    kept = record { tied = tied; charged = entered-charged charges' a pipes' k q x.at_key x.charged };
    filed = entered-fifos es' a pipes' k q x.at_key (ap length z.described ∙ length_push ds _) x.filed;
  }

  abbrev s : State Window ℕ
  s = state_of ps ds pipes' files files_made

  -- its pipe is counted, and its description made
  abbrev made : State Window ℕ
  made =
      change_pipe (opens.counted (access_seen a)) (record s {
        descriptions = s.descriptions ++ Some (record
            { pipe = k.serial; reads = a.reads; writes = a.writes; nonblocking = a.nonblock }) ∷ [];
      }) k.serial

  abbrev seated : Option ℕ → List (Option (machine.Process ℕ))
  seated None =
      put_at s.processes (pid - 1)
      (with_descriptor (first_free (process_of p).descriptors) (length s.descriptions) (process_of p))
  seated (Some n) = change_at (waiting (Some (Opening (length s.descriptions) n))) s.processes (pid - 1)

  abbrev outcome : Option ℕ → State Window ℕ
  outcome o = record made { processes = seated o }

  drawn : z.k.serial ≡ length s.descriptions
  drawn = z.k_is ∙ sym (length-map ds (option_map description_of))

  low : first_free (process_of p).descriptors ≡ fd
  low = first_free-map (λ (x : Key). x.serial) p.descriptors ∙ sym lowest

  seated_shown : (o : Option ℕ) → processes_of (put_at ps (pid - 1) (taking fd o z.k p)) ≡ seated o
  seated_shown None =
      map-set (option_map process_of) ps (pid - 1) (Some (taking fd None z.k p))
      ∙ ap (λ xs. put_at s.processes (pid - 1)
      (record { cred = p.cred; descriptors = xs; parked = option_map call_of p.parked }))
      (map-set (option_map (λ (x : Key). x.serial)) p.descriptors fd (Some z.k)
      ∙ (λ i. put_at (process_of p).descriptors (sym low i) (drawn i)))
  seated_shown (Some n) =
      shown_change process_of (waiting (Some (Opening (length s.descriptions) n))) ps (pid - 1) p
      (taking fd (Some n) z.k p) (opener after z is lowest within x.held)
      (ap (λ m. waiting (Some (Opening m n)) (process_of p)) drawn)

  shows : state_of ps' ds' after files files_made ≡ outcome (before a q)
  shows i = record {
    processes = (ap processes_of (seated_is after z is lowest within x.held) ∙ seated_shown (before a q)) i;
    descriptions = (ap (map (option_map description_of)) z.described ∙ map_push (option_map description_of) ds _) i;
    pipes =
        shown_change pipe_of (opens.counted (access_seen a)) pipes' k.serial (k.slot, q) (k.slot, counted a q) x.at_key
        refl i;
    files = files;
    files_made = files_made;
  }

  -- what the machine's open comes to, by whether it waits and what it would keep
  abbrev tried : Bool → ℕ → Result (Outcome Window ℕ) Errno
  tried b m =
      first pid false
      (if b then Waits made (Opening (length s.descriptions) m)
      else given made pid (process_of p) (length s.descriptions))

  abbrev kept : Bool → Option ℕ
  kept b = if b then Some (other_opens a.reads q) else None

  by_waiting : (b : Bool) → tried b (other_opens a.reads q) ≡ Ok (told (outcome (kept b)) (told_at fd (kept b)))
  by_waiting true = refl
  by_waiting false = ap (λ fd. Ok (told (outcome None) (Num fd))) low

  goes_on : go_on s pid (process_of p) (access_seen a) (record { state = s; pipe = k.serial })
      ≡ Ok (told (state_of ps' ds' after files files_made) reply)
  goes_on =
      (λ i. tried (is_waiting (access_seen a) (x.counts.0 i) (x.counts.1 i))
      (opens.kept_by (access_seen a) (shown pipe_of pipes' k.serial (k.slot, q) x.at_key i)))
      ∙ by_waiting (waits a q.readers q.writers) ∙ (λ i. Ok (told (sym shows i) (sym z.told i)))

  joined : (f : Live) → Owns f (record { limits = limits; state = state_of ps ds pipes files files_made })
      → Joined f (map ring_or (state_of ps' ds' after files files_made).pipes)
  joined f o =
      subst (Joined f) (sym (ap (map ring_or) (map-set (option_map pipe_of) pipes' k.serial
      (Some (k.slot, counted a q))) ∙ ring_stays s.pipes k.serial (pipe_of (k.slot, q))
      (pipe_of (k.slot, counted a q)) (shown pipe_of pipes' k.serial (k.slot, q) x.at_key) refl)) (x.joins f o)

-- The call

module _ {files : Files} {files_made : ℕ} {charges : UserPages} {es : List (ℕ × Key)} {ps : ProcessRows}
    {ds : DescriptionRows} {pipes : PipeRows} (w : Whole charges es ps ds pipes) {n : Namespace}
    (view : record { limits = charges.limits; state = state_of ps ds pipes files files_made } ≡ n) (pid : ℕ)
    {p : Process} (is : ready_in ps pid ≡ Ok p) where
  pub is_ready : IsOk (ready n.state pid)
  is_ready = subst (λ (m : Namespace). IsOk (ready m.state pid)) view (subst IsOk (sym (readies ps pid p is)) refl)

  pub has_free : {fd : ℕ} → fd ≡ first_free p.descriptors → fd < MAX_DESCRIPTORS → HasFree ps pid
  has_free lowest within q lives =
      rw (← same_ok (sym (is_living ps pid p is) ∙ lives), ← lowest) within

  module _ (path : List ℕ) {a : Stored} {b : Access} (asked : access_seen a ≡ b) where
    abbrev now : State Window ℕ
    now = state_of ps ds pipes files files_made

    abbrev calls : Access → Namespace → Result (Outcome Window ℕ) Errno
    calls c m =
        of_ready m.state pid
        (λ q. open_path itself (length m.state.descriptions) itself m.limits m.state pid q path c)

    abbrev of_file : File → Result (Outcome Window ℕ) Errno
    of_file f =
        open_fifo itself (length now.descriptions) itself charges.limits now pid (process_of p) (access_seen a)
        f.number

    -- by the file that is found
    by_file : {r : Result File Errno} → openable files p.cred path (access_seen a) ≡ r → calls b n ≡ (r >>= of_file)
    by_file {r} found =
        subst (λ m. calls b m ≡ (r >>= of_file)) view
        (ap (λ c. calls c (record { limits = charges.limits; state = now })) (sym asked)
        ∙ ap (λ r. r >>= (λ q. open_path itself (length now.descriptions) itself charges.limits now pid q path
        (access_seen a))) (readies ps pid p is)
        ∙ ap (λ r. r >>= of_file) found)

    -- or why there is none
    pub not_named : (m : Namespace) (fault : Fault)
        → Answered (λ (f : File). f) (Err fault) (openable files p.cred path (access_seen a))
        → Says n m (Err fault) (calls b n)
    not_named m (faults.Errno e) found = by_file found
    not_named m faults.NoMemory found = tt

    module _ {f : File} (found : openable files p.cred path (access_seen a) ≡ Ok f) {fd : ℕ}
        (lowest : fd ≡ first_free p.descriptors) {key : Option Key} (key_is : lookup (nat_eq f.number) es ≡ key) where
      -- by the code's tests, and what its pipe comes to
      pub by_tests : {full lacks spent : Bool} {r : Result (opens.Found Window ℕ) Errno}
          → nat_le MAX_DESCRIPTORS fd ≡ full → lacks_readers (access_seen a) (readers_at pipes key) ≡ lacks
          → is_spent ds 1 ≡ spent
          → opens.pipe_of charges.limits now (process_of p) f.number (fifo_pipe now f.number) ≡ r
          → calls b n ≡ (refuse_if full EMFILE >> (refuse_if lacks ENXIO >> (refuse_if spent ENFILE
          >> (r >>= go_on now pid (process_of p) (access_seen a)))))
      by_tests x y z piped =
          by_file found
          ∙ (λ i. refuse_if ((ap (nat_le MAX_DESCRIPTORS) (first_free-map (λ (k : Key). k.serial) p.descriptors
          ∙ sym lowest) ∙ x) i) EMFILE
          >> (refuse_if ((ap (lacks_readers (access_seen a)) (readers_are es pipes w.filed f.number ps ds files
          files_made w.kept.tied key key_is) ∙ y) i) ENXIO
          >> (refuse_if ((ap (λ m. nat_lt MAX_MADE (m + 1)) (length-map ds (option_map description_of)) ∙ z) i) ENFILE
          >> (piped i >>= go_on now pid (process_of p) (access_seen a)))))

      -- it passes these tests
      passed : fd < MAX_DESCRIPTORS → lacks_readers (access_seen a) (readers_at pipes key) ≡ false
          → length ds < 2 ^ 64 - 1 → {r : Result (opens.Found Window ℕ) Errno}
          → opens.pipe_of charges.limits now (process_of p) f.number (fifo_pipe now f.number) ≡ r
          → calls b n ≡ (r >>= go_on now pid (process_of p) (access_seen a))
      passed within read unspent piped =
          by_tests (lt-leb _ _ within) read (le-ltb _ _ (omega (arith, unspent))) piped

      -- its pipe may be refused, or memory wanted
      pub not_piped : (m : Namespace) (charges' : UserPages) (es' : List (ℕ × Key)) (pipes' : PipeRows) (fault : Fault)
          → GetsPipe charges charges' pipes pipes' es es' p.cred f.number (Err fault) key → fd < MAX_DESCRIPTORS
          → lacks_readers (access_seen a) (readers_at pipes key) ≡ false → length ds < 2 ^ 64 - 1
          → Says n m (Err fault) (calls b n)
      not_piped m charges' es' pipes' (faults.Errno e) gets within read unspent =
          passed within read unspent (unpiped w p f.number files files_made charges' es' pipes' key_is e gets)
      not_piped m charges' es' pipes' faults.NoMemory gets within read unspent = tt

      -- where nothing stands against its pipe, nothing stands against the open
      pub opens_well : (key ≡ None → IsOk (fifo_capacity charges pipes p.cred)) → fd < MAX_DESCRIPTORS
          → lacks_readers (access_seen a) (readers_at pipes key) ≡ false → length ds < 2 ^ 64 - 1 → IsOk (calls b n)
      opens_well may within read unspent =
          let x = piped_well w p f.number files files_made key_is may in
          subst IsOk (sym (passed within read unspent x.1)) (goes_well now pid (process_of p) (access_seen a) x.0)

      -- Its pipe stands, or is made

      module _ (charges' : UserPages) (es' : List (ℕ × Key)) (pipes' : PipeRows) (k : Key)
          (gets : GetsPipe charges charges' pipes pipes' es es' p.cred f.number (Ok k) key) where
        a_side : IsSided a
        a_side = sided files p.cred path (access_seen a) found

        pub has_pipe : IsSome (find pipes' k.slot k.serial)
        has_pipe = is_there w p f.number files files_made a a_side charges' es' pipes' k key_is gets

        module _ {q : Pipe} (handed : find pipes' k.slot k.serial ≡ Some q) where
          x : Stands charges.limits files files_made ps ds pipes pipes' charges' es' p f.number a k q
          x = stands w p f.number files files_made a a_side charges' es' pipes' k key_is gets handed

          pub is_few : length ds < 2 ^ 64 - 1 → IsFew q
          is_few = x.few

          module _ {ps' : ProcessRows} {ds' : DescriptionRows} {reply : Reply}
              (z : Describes ps ps' ds ds' pid fd (end_of a k) (before a q) reply) (within : fd < MAX_DESCRIPTORS) where
            pub stands-whole : Whole charges' es' ps' ds' (put_at pipes' k.serial (k.slot, counted a q))
            stands-whole = opened-whole x z is lowest within

            pub opened-makes : lacks_readers (access_seen a) (readers_at pipes key) ≡ false → length ds < 2 ^ 64 - 1
                → Makes n (record {
                  limits = charges'.limits;
                  state = state_of ps' ds' (put_at pipes' k.serial (k.slot, counted a q)) files files_made;
                }) (calls b n) reply
            opened-makes read unspent =
                makes_over (tied x z is lowest within) files files_made view x.limits_are (joined x z is lowest within)
                (calls b) reply
                (ap (calls b) view ∙ passed within read unspent x.found ∙ goes_on x z is lowest within)
