-- The pipe of a FIFO that is opened: one that stands, or one that was made and has no end yet. Either way an open can
-- be counted in, and the machine's pipe is this one.

use Rattle.std.proofs.Common.{◌≡◌, ℕ, ◌+◌, ◌-◌, ◌^◌, ◌<◌, List, [], ◌∷◌, ◌++◌, length, map, Option, Some, None, IsSome}
use Rattle.std.proofs.Common.{is_some, Result, Ok, Err, IsOk, nat_eq, nat_lt, if◌then◌else◌, refl, sym, ap, subst, ◌∙◌}
use Rattle.std.proofs.Common.{arith}
use Rattle.std.proofs.Math.Seq.{set-append_seam}
use Rattle.pf_tables.proofs.Refusals.{ok_is, same_some, then-bind}
use Rattle.pf_tables.proofs.Common.{option_map, lookup, Window, Files, Limits, at, put_at, empty, ◌>>=◌, ◌>>◌, itself}
use Rattle.pf_tables.proofs.Common.{refuse_if, told_as, capacity_for, is_spent, is_privileged, State, readers, writers}
use Rattle.pf_tables.proofs.Common.{fifo_pipe, Errno, ENFILE, Fault, find, Live, UserPages, Joined, ring_or, rings_of}
use Rattle.pf_tables.proofs.Common.{AreCharged, Owns, ProcessRows, DescriptionRows, PipeRows, Key, Process, Pipe}
use Rattle.pf_tables.proofs.Common.{process_of, pipe_of, pipes_of, opens_at, opens_of, state_of, reads_it, writes_it}
use Rattle.pf_tables.proofs.Common.{counted, AreFifos, Whole, TiedWith, map_push}
use Rattle.pf_tables.proofs.Common.{length-map, at_past, at-push_new, unopened}
use Rattle.pf_base.specs.Capacities.{new_capacity}
use Rattle.pf_base.specs.declared.TheConstants.{MAX_MADE}
use Rattle.pf_base.specs.declared.errno.Errno.TheVariants.{ENOMEM}
use Rattle.pf_base.specs.declared.fault.Fault.TheVariants as faults
use Rattle.pf_machine.specs.Opens as opens
use Rattle.pf_machine.specs.Pipes.{new_pipe}
use Rattle.pf_machine.specs.State as machine
use Rattle.pf_limits.proofs.SumLaws.{made}
use Rattle.pf_tables.specs.declared.tables.opens.Access.{Access as Stored}
use Rattle.pf_tables.specs.Opened.{IsFew, end_of, fifo_capacity, unopened_pipe, SameKeys, MakesFifo, KeepsFifos}
use Rattle.pf_tables.specs.Opened.{GetsPipe}
use Rattle.pf_tables.proofs.DescriptorsDup.{at_most_one, sum-le-length}
use Rattle.pf_tables.proofs.Ends.{as_kept, counted as ends_counted}
use Rattle.pf_tables.proofs.Fifos.{fifos-pushed}
use Rattle.pf_tables.proofs.OpensDescribe.{IsSided, entered, founded}
use Rattle.pf_tables.proofs.OpensFind.{key_finds, fifo_is}
use Rattle.pf_tables.proofs.OwnsLaws.{joined_opened}
use Rattle.pf_tables.proofs.TablesSettled.{readers_shown, writers_shown}
use Rattle.pf_tables.proofs.TablesShown.{shown, find_at}
use Rattle.pf_tables.proofs.TablesTied.{pipe_row}

-- what is known of the pipe q that stands at the key k, where an open of the FIFO found the tables with these pipes
pub record Stands (limits : Limits) (files : Files) (files_made : ℕ) (ps : ProcessRows) (ds : DescriptionRows)
    (pipes pipes' : PipeRows) (charges' : UserPages) (es' : List (ℕ × Key)) (p : Process) (file : ℕ) (a : Stored)
    (k : Key) (q : Pipe) : Type 0 where
  pub at_key : at pipes' k.serial ≡ Some (k.slot, q)
  pub held : TiedWith [] (end_of a k ∷ []) ps ds (put_at pipes' k.serial (k.slot, counted a q))
  pub few : length ds < 2 ^ 64 - 1 → IsFew q
  pub charged : AreCharged charges' (pipes_of pipes')
  pub filed : AreFifos es' (length ds) (opens_of pipes')
  pub limits_are : charges'.limits ≡ limits
  pub found : let s = state_of ps ds pipes files files_made in
      opens.pipe_of limits s (process_of p) file (fifo_pipe s file)
      ≡ Ok (record { state = state_of ps ds pipes' files files_made; pipe = k.serial })
  pub counts : let s = state_of ps ds pipes' files files_made in
      (readers itself s k.serial ≡ q.readers) × (writers itself s k.serial ≡ q.writers)
  pub joins : (f : Live) → Owns f (record { limits = limits; state = state_of ps ds pipes files files_made })
      → Joined f (rings_of (state_of ps ds pipes' files files_made))

-- the keys may lie otherwise
filed-alike : {es fs : List (ℕ × Key)} {drawn : ℕ} (pipes : PipeRows) → SameKeys es fs
    → AreFifos es drawn (opens_of pipes) → AreFifos fs drawn (opens_of pipes)
filed-alike pipes keys filed = record {
  keys = record {
    finds = λ file k h. filed.keys.finds file k (sym (keys file) ∙ h);
    there = λ n place file h. keys file ∙ filed.keys.there n place file h;
  };
  few = filed.few;
}

module _ {charges : UserPages} {es : List (ℕ × Key)} {ps : ProcessRows} {ds : DescriptionRows} {pipes : PipeRows}
    (w : Whole charges es ps ds pipes) (p : Process) (file : ℕ) where
  abbrev Gets : UserPages → List (ℕ × Key) → PipeRows → Result Key Fault → Option Key → Type 0
  Gets charges' es' pipes' = GetsPipe charges charges' pipes pipes' es es' p.cred file

  -- Nothing has changed

  pub still-whole : {charges' : UserPages} {es' : List (ℕ × Key)} {pipes' : PipeRows}
      → KeepsFifos charges charges' pipes pipes' es es' p.cred file → Whole charges' es' ps ds pipes'
  still-whole z = rw (z.pages, z.rows) (record { kept = w.kept; filed = filed-alike pipes z.keys w.filed })

  pub keeps : (charges' : UserPages) (es' : List (ℕ × Key)) (pipes' : PipeRows) (fault : Fault) (key : Option Key)
      → Gets charges' es' pipes' (Err fault) key → KeepsFifos charges charges' pipes pipes' es es' p.cred file
  keeps charges' es' pipes' (faults.Errno e) None z = z.1
  keeps charges' es' pipes' (faults.Errno e) (Some j) z = absurd z
  keeps charges' es' pipes' faults.NoMemory key z = z

  module _ (files : Files) (files_made : ℕ) where
    abbrev shows : PipeRows → State Window ℕ
    shows xs = state_of ps ds xs files files_made

    abbrev s : State Window ℕ
    s = shows pipes

    abbrev pipe_for : Option ℕ → Result (opens.Found Window ℕ) Errno
    pipe_for = opens.pipe_of charges.limits s (process_of p) file

    -- the machine's pipe, where it has none
    abbrev with_slots : ℕ → Result (opens.Found Window ℕ) Errno
    with_slots slots = Ok (record {
      state = record s { pipes = s.pipes ++ Some (new_pipe (empty slots) p.cred.uid (Some file)) ∷ [] };
      pipe = length s.pipes;
    })

    made_for : pipe_for None ≡ (fifo_capacity charges pipes p.cred >>= with_slots)
    made_for =
        let spent : is_spent s.pipes 1 ≡ is_spent pipes 1 =
        ap (λ m. nat_lt MAX_MADE (m + 1)) (length-map pipes (option_map pipe_of)) in
        then-bind (refuse_if (is_spent s.pipes 1) ENFILE) (told_as ENOMEM (capacity_for charges.limits s p.cred))
        with_slots
        ∙ (λ i. (refuse_if (spent i) ENFILE >> told_as ENOMEM (new_capacity charges.limits (is_privileged p.cred)
        (sym (w.kept.charged.users p.cred.uid) i) (sym w.kept.charged.total i))) >>= with_slots)

    named : {key : Option Key} → lookup (nat_eq file) es ≡ key
        → pipe_for (fifo_pipe s file) ≡ pipe_for (option_map (λ (k : Key). k.serial) key)
    named {key} key_is = ap pipe_for (fifo_is es pipes w.filed file ps ds files files_made key key_is)

    -- where nothing stands against a new one, it has one or gets it
    pub piped_well : {key : Option Key} → lookup (nat_eq file) es ≡ key
        → (key ≡ None → IsOk (fifo_capacity charges pipes p.cred))
        → (x : opens.Found Window ℕ) × (pipe_for (fifo_pipe s file) ≡ Ok x)
    piped_well {key = None} key_is may =
        let slots = ok_is (fifo_capacity charges pipes p.cred) (may refl) in
        (_, named key_is ∙ made_for ∙ ap (λ r. r >>= with_slots) slots.1)
    piped_well {key = Some j} key_is may = (_, named key_is)

    -- it is refused as the machine's is
    pub unpiped : (charges' : UserPages) (es' : List (ℕ × Key)) (pipes' : PipeRows) {key : Option Key}
        → lookup (nat_eq file) es ≡ key → (e : Errno) → Gets charges' es' pipes' (Err (faults.Errno e)) key
        → pipe_for (fifo_pipe s file) ≡ Err e
    unpiped charges' es' pipes' {key = None} key_is e z = named key_is ∙ made_for ∙ ap (λ r. r >>= with_slots) z.0
    unpiped charges' es' pipes' {key = Some j} key_is e z = absurd z

    -- One that stands

    module _ (k : Key) (q : Pipe) (there : at pipes k.serial ≡ Some (k.slot, q)) where
      is_few : length ds < 2 ^ 64 - 1 → IsFew q
      is_few unspent =
          let row = pipe_row k q there w.kept.tied in
          let opened = w.filed.few k.serial (k.slot, q.opens) (shown opens_at pipes k.serial (k.slot, q) there) in
          let reading = sum-le-length (λ e. reads_it k.serial e.1.value) ds (λ e. at_most_one _) in
          let writing = sum-le-length (λ e. writes_it k.serial e.1.value) ds (λ e. at_most_one _) in
          omega (arith, row.0, row.1, reading, writing, opened.0, opened.1, unspent)

      stood : (a : Stored) → IsSided a → lookup (nat_eq file) es ≡ Some k → {charges' : UserPages}
          → {es' : List (ℕ × Key)} → {pipes' : PipeRows}
          → KeepsFifos charges charges' pipes pipes' es es' p.cred file
          → Stands charges.limits files files_made ps ds pipes pipes' charges' es' p file a k q
      stood a sided key_is z =
          rw (z.pages, z.rows) (record {
            at_key = there;
            held = entered a sided k ps ds pipes w.kept.tied q there;
            few = is_few;
            charged = w.kept.charged;
            filed = filed-alike pipes z.keys w.filed;
            limits_are = refl;
            found = named key_is;
            counts = ends_counted as_kept None files files_made w.kept.tied 0 0 k.serial k.slot q there;
            joins = λ f o. o.joined;
          })

    -- One that was made

    module _ (k : Key) {charges' : UserPages} {es' : List (ℕ × Key)} {pipes' : PipeRows}
        (z : MakesFifo charges charges' pipes pipes' es es' p.cred file k) where
      abbrev fresh : Pipe
      fresh = unopened_pipe z.slots p.cred.uid file

      abbrev with_fresh : PipeRows
      with_fresh = pipes ++ Some (k.slot, fresh) ∷ []

      there : at with_fresh k.serial ≡ Some (k.slot, fresh)
      there = ap (at with_fresh) z.k_is ∙ at-push_new pipes (Some (k.slot, fresh))

      pushed : pipes_of with_fresh ≡ pipes_of pipes ++ Some (pipe_of (k.slot, fresh)) ∷ []
      pushed = map_push (option_map pipe_of) pipes (Some (k.slot, fresh))

      -- nothing is an end of it yet
      nobody : (readers itself (shows with_fresh) k.serial ≡ 0) × (writers itself (shows with_fresh) k.serial ≡ 0)
      nobody =
          let row = rw (at_past pipes k.serial (omega (arith, z.k_is))) at (w.kept.tied.uses k.serial) in
          let reads = readers_shown ps ds with_fresh files files_made k.serial in
          let writes = writers_shown ps ds with_fresh files files_made k.serial in
          (omega (arith, row.0, reads), omega (arith, row.1, writes))

      new : (a : Stored) → IsSided a → lookup (nat_eq file) es ≡ None
          → Stands charges.limits files files_made ps ds pipes pipes' charges' es' p file a k fresh
      new a sided key_is =
          rw z.stored (record {
            at_key = there;
            held =
                subst (TiedWith [] (end_of a k ∷ []) ps ds)
                (sym (ap (λ m. put_at with_fresh m (k.slot, counted a fresh)) z.k_is
                ∙ set-append_seam pipes (Some (k.slot, fresh)) [] (Some (k.slot, counted a fresh))))
                (founded a sided k ps ds pipes w.kept.tied fresh z.k_is refl refl);
            few = λ unspent. omega arith;
            charged =
                subst (AreCharged charges') (sym pushed)
                (made (λ (x : machine.Pipe Window). x.owner) (λ (x : machine.Pipe Window). x.queue.capacity) charges
                charges' (pipes_of pipes) w.kept.charged (pipe_of (k.slot, fresh)) z.charged);
            filed =
                subst (AreFifos es' (length ds)) (sym (map_push (option_map opens_at) pipes (Some (k.slot, fresh))))
                (fifos-pushed es es' (opens_of pipes) k.slot (unopened (Some file)) (omega arith)
                (omega arith, omega arith)
                (λ f. z.keys f ∙ ap (λ n. if nat_eq file f then Some (record { slot = k.slot; serial = n })
                else lookup (nat_eq f) es) (z.k_is ∙ sym (length-map pipes (option_map opens_at))))
                (λ f e. ap (λ m. lookup (nat_eq m) es) (sym (same_some e)) ∙ key_is) w.filed);
            limits_are = z.charged.limits;
            found =
                named key_is ∙ made_for ∙ ap (λ r. r >>= with_slots) z.may
                ∙ (λ i. Ok (record {
                  state = record s { pipes = sym pushed i };
                  pipe = (length-map pipes (option_map pipe_of) ∙ sym z.k_is) i;
                }));
            counts = nobody;
            joins =
                λ f o. subst (λ xs. Joined f (map ring_or xs)) (sym pushed)
                (joined_opened f s.pipes (pipe_of (k.slot, fresh)) refl o.joined
                (omega (arith, z.room, o.reserve, w.kept.charged.total)));
          })

    -- Either

    module _ (a : Stored) (sided : IsSided a) (charges' : UserPages) (es' : List (ℕ × Key)) (pipes' : PipeRows)
        (k : Key) {key : Option Key} (key_is : lookup (nat_eq file) es ≡ key)
        (z : Gets charges' es' pipes' (Ok k) key) where
      abbrev Standing : Key → Pipe → Type 0
      Standing j q = Stands charges.limits files files_made ps ds pipes pipes' charges' es' p file a j q

      there_is : (q : Pipe) × Standing k q
      there_is = by_key key key_is z
        where
          by_key : (o : Option Key) → lookup (nat_eq file) es ≡ o → Gets charges' es' pipes' (Ok k) o
              → (q : Pipe) × Standing k q
          by_key None h m = (unopened_pipe m.slots p.cred.uid file, new k m a sided h)
          by_key (Some j) h m =
              let r = key_finds es pipes w.filed file j h in
              subst (λ (l : Key). (q : Pipe) × Standing l q) (sym m.0) (r.0, stood j r.0 r.1 a sided h m.1)

      there_found : find pipes' k.slot k.serial ≡ Some there_is.0
      there_found = find_at pipes' k.slot k.serial there_is.0 there_is.1.at_key

      pub is_there : IsSome (find pipes' k.slot k.serial)
      is_there = ap is_some there_found

      pub stands : {q : Pipe} → find pipes' k.slot k.serial ≡ Some q → Standing k q
      stands handed = subst (Standing k) (same_some (sym there_found ∙ handed)) there_is.1
