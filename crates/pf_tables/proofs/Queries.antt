-- What a host asks, answered from the rows.

use Rattle.std.proofs.Common.{◌≡◌, ℕ, zero, suc, ◌+◌, ◌-◌, ◌<◌, ◌≤◌, Bool, true, false, ◌||◌, length, drop, Option}
use Rattle.std.proofs.Common.{Some, None, Result, Ok, Err, ◌≢◌, nat_eq, nat_lt, nat_le, length-drop, refl, sym, ap}
use Rattle.std.proofs.Common.{◌∙◌, arith}
use Rattle.pf_tables.proofs.Refusals.{is_there, is_none, bind-bind}
use Rattle.pf_tables.proofs.Common.{option_map, option_and_then, Limits, MAX_PROCESSES, PIPE_BUF, MAX_WRITE, Errno}
use Rattle.pf_tables.proofs.Common.{ESRCH, EBADF, EINVAL, Side, Files, ◌>>=◌, ◌>>◌, refuse_if, or_refuse, Segment}
use Rattle.pf_tables.proofs.Common.{bytes_of, room_of, at, itself, State, End, process, readers, writers, find, Live}
use Rattle.pf_tables.proofs.Common.{IsSound, UserPages, Open, Cross, queue_of, Stands, Namespace, meaning, pipe_meaning}
use Rattle.pf_tables.proofs.Common.{Owns, GoesOn, ProcessRows, DescriptionRows, PipeRows, Key, Process, Description}
use Rattle.pf_tables.proofs.Common.{Pipe, process_of, state_of, process_in, end_in, Kept, nat_tests, at_past}
use Rattle.pf_tables.proofs.Common.{end_of_row}
use Rattle.pf_base.specs.declared.progress.Crossing.{Crossing}
use Rattle.pf_base.specs.declared.progress.Side.TheVariants as sides
use Rattle.pf_machine.specs.Attempts as attempts
use Rattle.pf_machine.specs.State as machine
use Rattle.pf_machine.specs.Transfers.{Ends}
use Rattle.pf_machine.specs.Queries.{can_go_on, readiness, ready_for, read_goes_on, write_goes_on, cross_goes_on}
use Rattle.pf_machine.proofs.QueryLaws.{or_is_over, goes_on, IsCut, can_go_on-is, waits_in_none}
use Rattle.pf_parked.specs.declared.call.Call.TheVariants.{Read, Write}
use Rattle.pf_parked.specs.UnfinishedWrite.{UnfinishedWrite}
use Rattle.pf_tables.specs.Rows.{Call, call_of, waits}
use Rattle.pf_tables.proofs.ProcessTableReady.{lives, lives_not, place_of}
use Rattle.pf_tables.proofs.Ends.{side_end, end_of_rows, Agree, row_ends, ends, not_lost, counted, reaches, open_end}
use Rattle.pf_tables.specs.Opened.{others_at}
use Rattle.pf_tables.proofs.TablesShown.{find_at, find_was}
use Rattle.pf_tables.proofs.Transfers as transfers

was_none : {A : Type 0} (e f : Errno) (o : Option A) → or_refuse e o ≡ Err f → o ≡ None
was_none e f None h = refl
was_none e f (Some y) h = absurd (cc)

-- who has a pid is in the place before it
place_found : (ps : ProcessRows) (pid : ℕ) → 0 < pid → process_in ps pid ≡ or_refuse ESRCH (at ps (pid - 1))
place_found ps zero above = absurd (omega arith)
place_found ps (suc i) above =
    let same : suc i - 1 ≡ i = omega arith in ap (λ j. or_refuse ESRCH (at ps j)) (sym same)

module _ {files : Files} {files_made : ℕ} {limits : Limits} {charges : UserPages} {ps : ProcessRows}
    {ds : DescriptionRows} {pipes : PipeRows} (k : Kept charges ps ds pipes) {n : Namespace}
    (view : record { limits = limits; state = state_of ps ds pipes files files_made } ≡ n)
    (pid : ℕ) where
  abbrev shows : Live → State Segment ℕ
  shows f = meaning f (state_of ps ds pipes files files_made)

  -- it is enough to answer over the rows
  over_rows : (b : Bool) → ((f : Live) → IsSound f → Owns f n → b ≡ can_go_on limits (shows f) pid) → GoesOn n pid b
  over_rows b h f sound owns = rw (← view) (h f sound owns)

  -- Nobody waits
  pub lives_not_on : (e : Errno) → process_in ps pid ≡ Err e → GoesOn n pid false
  lives_not_on e h = over_rows false (λ f sound owns.
      sym (waits_in_none limits (shows f) pid (ap (option_and_then (λ (p : machine.Process ℕ). p.parked))
      (was_none ESRCH e (process (shows f) pid) (lives_not ps pid e h)))))

  pub above_all : MAX_PROCESSES < pid → GoesOn n pid false
  above_all past =
      lives_not_on ESRCH (place_found ps pid (omega (arith, past)) ∙ ap (or_refuse ESRCH)
      (at_past ps (pid - 1) (omega (arith, past, k.tied.places))))

  module _ {p : Process} (here : process_in ps pid ≡ Ok p) where
    there : (f : Live) → process (shows f) pid ≡ Some (process_of p)
    there f = is_there ESRCH (process (shows f) pid) (lives ps pid p here)

    pub waits_not : None ≡ p.parked → GoesOn n pid false
    waits_not none = over_rows false (λ f sound owns.
        sym (waits_in_none limits (shows f) pid (ap (option_and_then (λ (q : machine.Process ℕ). q.parked)) (there f)
        ∙ ap (option_map call_of) (sym none))))

    -- the answer for its call
    answers : (call : Call Key) → Some call ≡ p.parked → IsCut (call_of call) → (b : Bool)
        → ((f : Live) → IsSound f → Owns f n → b ≡ goes_on (shows f) (process_of p) (call_of call)) → GoesOn n pid b
    answers call waits cut b h = over_rows b (λ f sound owns.
        h f sound owns ∙ sym (can_go_on-is limits (shows f) pid (process_of p) (call_of call) (there f)
        (ap (option_map call_of) (sym waits)) cut))

    -- Its ends

    its : (f : Live) (side : Option Side) (fd : ℕ)
        → Agree (pipe_meaning f) pipes (end_of_row side p ds fd) (side_end side (shows f) (process_of p) fd)
    its f side fd = row_ends (pipe_meaning f) side files files_made k.tied pid fd (pid - 1) p (place_of ps pid p here)

    pub has_pipe : (side : Option Side) (fd : ℕ) {d : Description} → Ok d ≡ end_of_row side p ds fd
        → None ≡ find pipes d.pipe.slot d.pipe.serial → GoesOn n pid true
    has_pipe side fd {d} h none f sound owns = absurd (not_lost (its f side fd) (sym h) (sym none))

    -- the counts of a pipe that was found are the machine's
    counts : (f : Live) (d : Description) (r : Pipe) → Some r ≡ find pipes d.pipe.slot d.pipe.serial
        → (readers itself (shows f) d.pipe.serial ≡ r.readers) × (writers itself (shows f) d.pipe.serial ≡ r.writers)
    counts f d r handed =
        counted (pipe_meaning f) None files files_made k.tied pid 0 d.pipe.serial d.pipe.slot r
        (find_was pipes d.pipe.slot d.pipe.serial r (sym handed))

    stands : (f : Live) → Owns f n → (d : Description) (r : Pipe) → Some r ≡ find pipes d.pipe.slot d.pipe.serial
        → Stands f r.ring.segments
    stands f owns d r handed = transfers.stands_in k view owns d (sym handed)

    -- A read
    module _ {fd m : ℕ} (waits : Some (Read fd m) ≡ p.parked) where
      pub read_is_over : {e : Errno} → Err e ≡ end_of_row (Some sides.Read) p ds fd → GoesOn n pid true
      read_is_over {e} h =
          answers (Read fd m) waits tt true (λ f sound owns. sym
          (ap (or_is_over _) ((its f (Some sides.Read) fd).refused (sym h))))

      module _ {d : Description} (h : Ok d ≡ end_of_row (Some sides.Read) p ds fd) where
        pub reads_on : {r : Pipe} → Some r ≡ find pipes d.pipe.slot d.pipe.serial → (b : Bool)
            → ((f : Live) → IsSound f → Stands f r.ring.segments → b ≡ read_goes_on (queue_of f r.ring) r.writers m)
            → GoesOn n pid b
        reads_on {r} handed b told =
            answers (Read fd m) waits tt b (λ f sound owns.
            told f sound (stands f owns d r handed)
            ∙ ap (λ w. read_goes_on (queue_of f r.ring) w m) (sym (counts f d r handed).1)
            ∙ sym (ap (or_is_over _) (reaches (its f (Some sides.Read) fd) (sym h) (sym handed))))

    -- A write
    module _ {fd : ℕ} {write : UnfinishedWrite} (waits : Some (Write fd write) ≡ p.parked)
        (cut : write.written ≤ length write.bytes) where
      pub write_is_over : {e : Errno} → Err e ≡ end_of_row (Some sides.Write) p ds fd → GoesOn n pid true
      write_is_over {e} h =
          answers (Write fd write) waits cut true (λ f sound owns. sym
          (ap (or_is_over _) ((its f (Some sides.Write) fd).refused (sym h))))

      module _ {d : Description} (h : Ok d ≡ end_of_row (Some sides.Write) p ds fd) where
        pub writes_on : {r : Pipe} → Some r ≡ find pipes d.pipe.slot d.pipe.serial → (all left : ℕ)
            → all ≡ length write.bytes → all ≤ MAX_WRITE → left + write.written ≡ length write.bytes → (b : Bool)
            → ((f : Live) → b ≡ write_goes_on (queue_of f r.ring) r.readers (nat_le all PIPE_BUF) left) → GoesOn n pid b
        writes_on {r} handed all left all_is within left_is b told =
            let fits : nat_lt MAX_WRITE (length write.bytes) ≡ false = grind (arith, nat_tests) in
            let rest : left ≡ length (drop write.written write.bytes) =
            omega (arith, left_is, length-drop write.written write.bytes) in
            answers (Write fd write) waits cut b (λ f sound owns.
            told f ∙ (λ i. write_goes_on (queue_of f r.ring) (sym (counts f d r handed).0 i)
            (nat_le (all_is i) PIPE_BUF) (rest i))
            ∙ ap (λ t. t || write_goes_on (queue_of f r.ring) (readers itself (shows f) d.pipe.serial)
            (nat_le (length write.bytes) PIPE_BUF) (length (drop write.written write.bytes))) (sym fits)
            ∙ sym (ap (or_is_over _) (reaches (its f (Some sides.Write) fd) (sym h) (sym handed))))

    -- A tee or a splice
    module _ {c : Crossing} {source sink m : ℕ} (waits : Some (Cross c source sink m) ≡ p.parked) where
      abbrev cross_test : (f : Live) → Ends → Bool
      cross_test f e =
          cross_goes_on e.source.pipe.queue e.sink.pipe.queue (writers itself (shows f) e.source.description.pipe)
          (readers itself (shows f) e.sink.description.pipe) m

      -- both ends, by what is found of each
      abbrev tested : Live → Result (End Segment ℕ) Errno → Result (End Segment ℕ) Errno → Bool
      tested f from to =
          or_is_over (cross_test f) (from >>= (λ i. to
          >>= (λ o. refuse_if (nat_eq i.description.pipe o.description.pipe) EINVAL >> Ok
          (record { source = i; sink = o }))))

      pub source_is_over : {e : Errno} → Err e ≡ end_of_row (Some sides.Read) p ds source → GoesOn n pid true
      source_is_over {e} h =
          answers (Cross c source sink m) waits tt true
          (λ f sound owns. sym (ap (λ r. tested f r (machine.writing_end itself (shows f) (process_of p) sink))
          ((its f (Some sides.Read) source).refused (sym h))))

      module _ {d : Description} (h : Ok d ≡ end_of_row (Some sides.Read) p ds source) where
        pub sink_is_over : {e : Errno} → Err e ≡ end_of_row (Some sides.Write) p ds sink → GoesOn n pid true
        sink_is_over {e} g =
            answers (Cross c source sink m) waits tt true (λ f sound owns.
            let there = (its f (Some sides.Read) source).found (sym h) in
            sym (ap (λ r. tested f r (machine.writing_end itself (shows f) (process_of p) sink)) there.is
            ∙ ap (tested f (Ok (end_of_rows (pipe_meaning f) d there.pipe)))
            ((its f (Some sides.Write) sink).refused (sym g))))

        module _ {d' : Description} (g : Ok d' ≡ end_of_row (Some sides.Write) p ds sink) where
          both_ends : (f : Live) (r r' : Pipe) → Some r ≡ find pipes d.pipe.slot d.pipe.serial
              → Some r' ≡ find pipes d'.pipe.slot d'.pipe.serial
              → tested f (Ok (end_of_rows (pipe_meaning f) d r)) (Ok (end_of_rows (pipe_meaning f) d' r'))
              ≡ goes_on (shows f) (process_of p) (call_of (Cross c source sink m))
          both_ends f r r' handed handed' =
              sym (ap (λ x. tested f x (machine.writing_end itself (shows f) (process_of p) sink))
              (reaches (its f (Some sides.Read) source) (sym h) (sym handed))
              ∙ ap (tested f (Ok (end_of_rows (pipe_meaning f) d r)))
              (reaches (its f (Some sides.Write) sink) (sym g) (sym handed')))

          pub one_pipe : d.pipe.serial ≡ d'.pipe.serial → GoesOn n pid true
          one_pipe same =
              answers (Cross c source sink m) waits tt true (λ f sound owns.
              let from = (its f (Some sides.Read) source).found (sym h) in
              let to = (its f (Some sides.Write) sink).found (sym g) in
              let equal : nat_eq d.pipe.serial d'.pipe.serial ≡ true = grind (arith, nat_tests) in
              let source = end_of_rows (pipe_meaning f) d from.pipe in
              let sink = end_of_rows (pipe_meaning f) d' to.pipe in
              ap (λ b. or_is_over (cross_test f) (refuse_if b EINVAL >> Ok (record { source = source; sink = sink })))
              (sym equal)
              ∙ both_ends f from.pipe to.pipe (sym (find_at pipes d.pipe.slot d.pipe.serial from.pipe from.stands))
              (sym (find_at pipes d'.pipe.slot d'.pipe.serial to.pipe to.stands)))

          pub crosses_on : d.pipe.serial ≢ d'.pipe.serial → {r r' : Pipe}
              → Some r ≡ find pipes d.pipe.slot d.pipe.serial → Some r' ≡ find pipes d'.pipe.slot d'.pipe.serial
              → (b : Bool)
              → ((f : Live) → IsSound f → Stands f r.ring.segments
              → b ≡ cross_goes_on (queue_of f r.ring) (queue_of f r'.ring) r.writers r'.readers m) → GoesOn n pid b
          crosses_on other {r} {r'} handed handed' b told =
              answers (Cross c source sink m) waits tt b (λ f sound owns.
              let differ : nat_eq d.pipe.serial d'.pipe.serial ≡ false = grind (arith, nat_tests) in
              told f sound (stands f owns d r handed)
              ∙ (λ i. cross_goes_on (queue_of f r.ring) (queue_of f r'.ring) (sym (counts f d r handed).1 i)
              (sym (counts f d' r' handed').0 i) m)
              ∙ ap (λ t. or_is_over (cross_test f) (refuse_if t EINVAL >> Ok
              (record { source = end_of_rows (pipe_meaning f) d r; sink = end_of_rows (pipe_meaning f) d' r' })))
              (sym differ)
              ∙ both_ends f r r' handed handed')

    -- An open
    pub opens_on : {j : Key} {kept : ℕ} → Some (Open j kept) ≡ p.parked → (x : ℕ) → x ≡ others_at ds pipes j
        → GoesOn n pid (nat_lt kept x)
    opens_on {j} {kept} waits x x_is =
        answers (Open j kept) waits tt (nat_lt kept x) (λ f sound owns.
        let w =
        open_end (pipe_meaning f) None files files_made k.tied pid 0 j (place_of ps pid p here) (sym waits) in
        ap (nat_lt kept) (x_is ∙ w.3)
        ∙ sym (ap (λ o. or_is_over (λ (e : End Segment ℕ). nat_lt kept (attempts.other_opens e))
        (or_refuse EBADF o)) w.2))

  -- who waits in no call, and who doesn't live, can't go on
  pub waits_nowhere : 0 < pid → waits (at ps (pid - 1)) ≡ false → GoesOn n pid false
  waits_nowhere above idle = by_row (at ps (pid - 1)) refl idle
    where
      by_row : (o : Option Process) → at ps (pid - 1) ≡ o → waits o ≡ false → GoesOn n pid false
      by_row None e h = lives_not_on ESRCH (place_found ps pid above ∙ ap (or_refuse ESRCH) e)
      by_row (Some p) e h = waits_not (place_found ps pid above ∙ ap (or_refuse ESRCH) e) (sym (is_none p.parked h))

  -- What an end is ready for

  module _ (fd : ℕ) where
    -- the machine's answer from the end that it finds
    from_end : (s : State Segment ℕ) (r : Result (End Segment ℕ) Errno)
        → (machine.ready s pid >>= (λ p. machine.end_of itself s p fd)) ≡ r
        → readiness s pid fd ≡ (r >>= (λ e. Ok (ready_for s e)))
    from_end s r h =
        bind-bind (machine.ready s pid) (λ p. machine.end_of itself s p fd) (λ e. Ok (ready_for s e))
        ∙ ap (λ x. x >>= (λ e. Ok (ready_for s e))) h

    pub ready_refused : {e : Errno} → end_in None ps ds pid fd ≡ Err e → (f : Live)
        → readiness (meaning f n.state) pid fd ≡ Err e
    ready_refused {e} h f =
        rw (← view) (from_end (shows f) (Err e) ((ends (pipe_meaning f) None files files_made k.tied pid fd).refused h))

    module _ {d : Description} (h : end_in None ps ds pid fd ≡ Ok d) where
      pub ready_has_pipe : None ≡ find pipes d.pipe.slot d.pipe.serial → (f : Live)
          → readiness (meaning f n.state) pid fd ≡ Err EBADF
      ready_has_pipe none f = absurd (not_lost (ends (pipe_meaning f) None files files_made k.tied pid fd) h (sym none))

      pub ready_is : {r : Pipe} → Some r ≡ find pipes d.pipe.slot d.pipe.serial → (bytes room reading writing : ℕ)
          → ((f : Live) → IsSound f → Stands f r.ring.segments → bytes ≡ length (bytes_of (queue_of f r.ring)))
          → ((f : Live) → room ≡ room_of (queue_of f r.ring))
          → reading ≡ r.readers → writing ≡ r.writers → (f : Live) → IsSound f → Owns f n
          → Ok (record { bytes = bytes; room = room; has_reader = nat_lt 0 reading; has_writer = nat_lt 0 writing })
          ≡ readiness (meaning f n.state) pid fd
      ready_is {r} handed bytes room reading writing bytes_is room_is reading_is writing_is f sound owns =
          let c =
          counted (pipe_meaning f) None files files_made k.tied pid fd d.pipe.serial d.pipe.slot r
          (find_was pipes d.pipe.slot d.pipe.serial r (sym handed)) in
          rw (← view) ((λ i. Ok (record {
            bytes = bytes_is f sound (transfers.stands_in k view owns d (sym handed)) i;
            room = room_is f i;
            has_reader = nat_lt 0 ((reading_is ∙ sym c.0) i);
            has_writer = nat_lt 0 ((writing_is ∙ sym c.1) i);
          }))
          ∙ sym (from_end (shows f) (Ok (end_of_rows (pipe_meaning f) d r))
          (reaches (ends (pipe_meaning f) None files files_made k.tied pid fd) h (sym handed))))
