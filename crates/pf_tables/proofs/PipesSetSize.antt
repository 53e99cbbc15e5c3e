-- A pipe's slots: how many they are told to be, and a pipe that gets another number of them.

use Rattle.std.proofs.Common.{◌≡◌, ℕ, ◌+◌, ◌*◌, ◌<◌, ◌≤◌, Bool, true, false, not, ◌&&◌, List, length, set, Some, None}
use Rattle.std.proofs.Common.{IsSome, IsOk, Result, Ok, Err, nat_lt, refl, sym, ap, subst, ◌∙◌, arith, if◌then◌else◌}
use Rattle.std.proofs.Common.{inl, inr}
use Rattle.pf_tables.proofs.Common.{option_map, sum_by, Window, Files, Limits, is_privileged, ◌>>=◌, ◌>>◌, refuse_if}
use Rattle.pf_tables.proofs.Common.{told_as, at, put_at, itself, State, Outcome, ready, of_ready, with_queue, done}
use Rattle.pf_tables.proofs.Common.{Errno, EINVAL, EBUSY, Num, Fault, find, Live, UserPages, charged_to, Ring, Joined}
use Rattle.pf_tables.proofs.Common.{ring_at, slots_of, slots_used, Namespace, ring_or, rings_of, Charged, Owns}
use Rattle.pf_tables.proofs.Common.{ProcessRows, DescriptionRows, PipeRows, Process, Description, Pipe, process_of, Key}
use Rattle.pf_tables.proofs.Common.{pipe_of, pipes_of, state_of, ready_in, end_in, Whole, Makes, Says, le-ltb, cases_lt}
use Rattle.pf_tables.proofs.Common.{map-set, length-map, at_within}
use Rattle.std.proofs.lemmas.Bool.{lt-ltb}
use Rattle.pf_machine.specs.Queue.{with_capacity}
use Rattle.pf_base.specs.Capacities.{pages_for, may_grow}
use Rattle.pf_machine.specs.Pipes.{may_resize, set_size, get_size}
use Rattle.pf_machine.specs.State as machine
use Rattle.pf_machine.specs.State.{end_of, holding}
use Rattle.pf_base.specs.declared.TheConstants.{PAGE_SIZE, MAX_SIZE}
use Rattle.pf_base.specs.declared.errno.Errno.TheVariants.{EPERM}
use Rattle.pf_base.specs.declared.fault.Fault.TheVariants as faults
use Rattle.pf_limits.proofs.SumLaws.{covers}
use Rattle.pf_ring.proofs.TableLaws.{joined_resized}
use Rattle.pf_tables.proofs.OwnsLaws.{slots-rings, recharged, charged-same}
use Rattle.pf_tables.proofs.TablesTied.{requeued}
use Rattle.pf_tables.proofs.TablesSettled.{makes, makes_over}
use Rattle.pf_tables.specs.Tables.{verdict, Resizes, Refuses, Resizing}
use Rattle.pf_tables.proofs.ProcessTableReady.{readies}
use Rattle.pf_tables.proofs.Ends.{end_of_rows, as_kept, Agree, kept_ends, pipe_there as there_is, reaches}
use Rattle.pf_tables.proofs.Fifos.{fifos-put}
use Rattle.pf_tables.proofs.PipesRing.{there, ring_is, same_pipes, shows}
use Rattle.pf_tables.proofs.TablesShown.{find_at, find_was}
use Rattle.pf_tables.proofs.Refusals.{is_refused, bind-bind, goes_in_turn, stops_in_turn}

-- a change that was refused, whatever the reason
pub refuses : (u v : UserPages) (p q : Pipe) (privileged : Bool) (to : ℕ) (fault : Fault)
    → Resizing u v p q privileged to (Err fault) → Refuses u v p q
refuses u v p q privileged to (faults.Errno e) z = z.1
refuses u v p q privileged to faults.NoMemory z = z.1

-- what is known before
module _ {charges : UserPages} {es : List (ℕ × Key)} {ps : ProcessRows} {ds : DescriptionRows} {pipes : PipeRows}
    {files : Files} {files_made : ℕ} (rows : Whole charges es ps ds pipes) {n : Namespace}
    (view : record { limits = charges.limits; state = state_of ps ds pipes files files_made } ≡ n) (pid fd : ℕ) where
  abbrev s : State Window ℕ
  s = state_of ps ds pipes files files_made

  abbrev gets : State Window ℕ → Result (Outcome Window ℕ) Errno
  gets t = of_ready t pid (λ p. get_size itself t p fd)

  abbrev sets : ℕ → Namespace → Result (Outcome Window ℕ) Errno
  sets bytes m = of_ready m.state pid (λ p. set_size itself m.limits m.state p fd bytes)

  -- how the call goes on from its process and the end
  abbrev set_at : ℕ → machine.Process ℕ → machine.End Window ℕ → Result (Outcome Window ℕ) Errno
  set_at bytes p x =
      refuse_if (nat_lt MAX_SIZE bytes) EINVAL
      >> (refuse_if (not (is_privileged p.cred) && nat_lt charges.limits.max (PAGE_SIZE * pages_for bytes)) EPERM
      >> (may_resize charges.limits s p.cred x.pipe (pages_for bytes)
      >> Ok (done (with_queue s x.description.pipe (with_capacity (pages_for bytes) x.pipe.queue))
      (PAGE_SIZE * pages_for bytes))))

  -- the end is found at the state as it is kept
  its : Agree as_kept pipes (end_in None ps ds pid fd) (ready s pid >>= (λ p. end_of itself s p fd))
  its = kept_ends None files files_made rows.kept.tied pid fd

  pub no_size : {e : Errno} → end_in None ps ds pid fd ≡ Err e → gets n.state ≡ Err e
  no_size {e} h =
      rw (← view)
      (stops_in_turn (λ p. end_of itself s p fd) (λ p x. Ok (done s (PAGE_SIZE * x.pipe.queue.capacity)))
      (ready s pid) e (its.refused h))

  pub not_sized : (bytes : ℕ) {e : Errno} → end_in None ps ds pid fd ≡ Err e → sets bytes n ≡ Err e
  not_sized bytes {e} h =
      rw (← view) (stops_in_turn (λ p. end_of itself s p fd) (set_at bytes) (ready s pid) e (its.refused h))

  module _ {d : Description} (h : end_in None ps ds pid fd ≡ Ok d) where
    pub stands : (r : Pipe) × (find pipes d.pipe.slot d.pipe.serial ≡ Some r)
    stands = let w = its.found h in (w.pipe, find_at pipes d.pipe.slot d.pipe.serial w.pipe w.stands)

    pub pipe_there : IsSome (find pipes d.pipe.slot d.pipe.serial)
    pipe_there = there_is its h

    module _ {r : Pipe} (handed : find pipes d.pipe.slot d.pipe.serial ≡ Some r) where
      was : at pipes d.pipe.serial ≡ Some (d.pipe.slot, r)
      was = find_was pipes d.pipe.slot d.pipe.serial r handed

      is_there : at (pipes_of pipes) d.pipe.serial ≡ Some (pipe_of (d.pipe.slot, r))
      is_there = there ps ds pipes files files_made d.pipe r was

      -- its pages are among its owner's
      pub covered : r.ring.capacity ≤ charged_to charges r.owner
      covered =
          covers (λ (q : machine.Pipe Window). q.owner) (λ (q : machine.Pipe Window). q.queue.capacity) charges
          (pipes_of pipes) d.pipe.serial (pipe_of (d.pipe.slot, r)) rows.kept.charged is_there

      abbrev pipes' : Pipe → PipeRows
      pipes' r' = put_at pipes d.pipe.serial (d.pipe.slot, r')

      abbrev left : UserPages → Pipe → Namespace
      left charges' r' = record { limits = charges'.limits; state = state_of ps ds (pipes' r') files files_made }

      -- where it is as it was, and nobody is charged otherwise
      module _ (r' : Pipe) (charges' : UserPages) (z : Refuses charges charges' r r') where
        same_rows : pipes' r' ≡ pipes
        same_rows = same_pipes ps ds pipes files files_made d.pipe r was r' z.pipe

        pub same-whole : Whole charges' es ps ds (pipes' r')
        same-whole =
            rw same_rows
            (record {
              kept = record {
                tied = rows.kept.tied;
                charged = charged-same charges charges' r.owner s z.charges rows.kept.charged;
              };
              filed = rows.filed;
            })

        pub same_view : left charges' r' ≡ n
        same_view =
            (λ j. record { limits = z.charges.limits j; state = state_of ps ds (same_rows j) files files_made }) ∙ view

      abbrev size_of : machine.End Window ℕ → Result (Outcome Window ℕ) Errno
      size_of x = Ok (done s (PAGE_SIZE * x.pipe.queue.capacity))

      pub tells_size : (size : ℕ) → size ≡ PAGE_SIZE * r.ring.capacity → Makes n n (gets n.state) (Num size)
      tells_size size all =
          subst (λ (m : Namespace). Makes n m (gets n.state) (Num size)) view
          (makes rows.kept.tied files files_made view refl gets (Num size)
          (bind-bind (ready s pid) (λ q. end_of itself s q fd) size_of
          ∙ ap (λ x. x >>= size_of) (reaches its h handed)
          ∙ ap (λ m. Ok (done s m)) (sym all)))

      -- It has other slots
      module _ (r' : Pipe) (charges' : UserPages) {root : Bool} {to : ℕ}
          (z : Resizes charges charges' r r' root to) where
        abbrev ring' : Ring
        ring' = record { capacity = to; segments = r.ring.segments }

        shows_it : state_of ps ds (pipes' r') files files_made ≡ with_queue s d.pipe.serial ring'
        shows_it =
            shows ps ds pipes files files_made d.pipe r was r' (ap (λ (q : Pipe). q.owner) z.pipe)
            (ap (λ (q : Pipe). q.opens) z.pipe) ∙ ap (λ (q : Pipe). with_queue s d.pipe.serial q.ring) z.pipe

        pub resized-whole : Whole charges' es ps ds (pipes' r')
        resized-whole = record {
          kept = record {
            tied =
                requeued d.pipe r was r' (ap (λ (q : Pipe). q.readers) z.pipe)
                (ap (λ (q : Pipe). q.writers) z.pipe) rows.kept.tied;
            charged =
                subst (Charged charges') (sym shows_it)
                (recharged charges charges' s d.pipe.serial (pipe_of (d.pipe.slot, r)) ring' is_there z.charges
                rows.kept.charged);
          };
          filed = fifos-put es pipes d.pipe r r' was (ap (λ (q : Pipe). q.opens) z.pipe) rows.filed;
        }

        resized-joined : (f : Live) → Owns f (record { limits = charges.limits; state = s })
            → Joined f (rings_of (state_of ps ds (pipes' r') files files_made))
        resized-joined f o =
            let all : sum_by slots_of (rings_of s) ≡ charges.total =
            slots-rings (pipes_of pipes) ∙ sym rows.kept.charged.total in
            let most = ap (λ (l : Limits). l.reserve) z.charges.limits in
            -- all slots stay within the reservation: those of a pipe that grew, and those of one that shrank anyway
            let reserve_kept : sum_by slots_of (rings_of s) + to ≤ f.reserved + r.ring.capacity =
            elim (cases_lt r.ring.capacity to) [
              | inl more ↦ omega (arith, all, z.charges.total, z.room more, most, o.reserve)
              | inr less ↦ omega (arith, less, o.joined.reserve)
            ] in
            let here : ring_at (rings_of s) d.pipe.serial ≡ r.ring =
            ring_is ps ds pipes files files_made d.pipe r was in
            let within : d.pipe.serial < length (rings_of s) =
            let l = at_within pipes d.pipe.serial (d.pipe.slot, r) was in
            omega (arith, length-map (pipes_of pipes) ring_or, length-map pipes (option_map pipe_of), l) in
            let joined : Joined f (set (rings_of s) d.pipe.serial ring') =
            rw here at
            (joined_resized f (rings_of s) d.pipe.serial to within o.joined
            (subst (λ (x : Ring). slots_used x ≤ to) (sym here) z.fits)
            (omega (arith, reserve_kept, ap slots_of here))) in
            rw (
              ap (λ (x : State Window ℕ). x.pipes) shows_it,
              map-set ring_or (pipes_of pipes) d.pipe.serial
                  (option_map (holding ring') (at (pipes_of pipes) d.pipe.serial)),
              is_there,
            ) joined

      module _ {p : Process} (is : ready_in ps pid ≡ Ok p) (bytes : ℕ) where
        -- what the call says, test by test
        abbrev tests : Bool → Bool → Result (Unit {0}) Errno → ℕ → ℕ → Result (Outcome Window ℕ) Errno
        tests long large may to size =
            refuse_if long EINVAL >> (refuse_if large EPERM
            >> (may >> Ok (done (with_queue s d.pipe.serial (with_capacity to r.ring)) size)))

        abbrev may : ℕ → Result (Unit {0}) Errno
        may to = may_resize charges.limits s p.cred (end_of_rows as_kept d r).pipe to

        set_is : sets bytes n
            ≡ tests (nat_lt MAX_SIZE bytes)
            (not (is_privileged p.cred) && nat_lt charges.limits.max (PAGE_SIZE * pages_for bytes))
            (may (pages_for bytes)) (pages_for bytes) (PAGE_SIZE * pages_for bytes)
        set_is =
            rw (← view)
            (goes_in_turn (λ q. end_of itself s q fd) (set_at bytes) (ready s pid) (process_of p)
            (end_of_rows as_kept d r) (readies ps pid p is) (reaches its h handed))

        pub too_long : MAX_SIZE < bytes → sets bytes n ≡ Err EINVAL
        too_long long = set_is ∙ is_refused _ _ (lt-ltb MAX_SIZE bytes long)

        -- where the bytes are not too many
        module _ (short : bytes ≤ MAX_SIZE) {root : Bool} (root_is : root ≡ is_privileged p.cred) {to : ℕ}
            (to_is : to ≡ pages_for bytes) {config : Limits} (config_is : config ≡ charges.limits) {large : Bool}
            (large_is : large ≡ (not root && nat_lt config.max (to * PAGE_SIZE))) where
          judged : sets bytes n ≡ tests false large (may to) to (to * PAGE_SIZE)
          judged =
              let size : to * PAGE_SIZE ≡ PAGE_SIZE * pages_for bytes = omega (arith, to_is) in
              set_is
              ∙ (λ j. tests (le-ltb MAX_SIZE bytes short j)
              (not (sym root_is j) && nat_lt (sym config_is j).max (sym size j)) (may (sym to_is j)) (sym to_is j)
              (sym size j))
              ∙ ap (λ b. tests false b (may to) to (to * PAGE_SIZE)) (sym large_is)

          pub too_large : large ≡ true → sets bytes n ≡ Err EPERM
          too_large over = judged ∙ is_refused _ _ over

          -- nor above pipe-max-size, it goes by the test of the counters
          module _ (under : large ≡ false) where
            verdict_is : sets bytes n ≡ tests false false (verdict charges root r to) to (to * PAGE_SIZE)
            verdict_is =
                judged
                ∙ (λ j. tests false (under j) (if nat_lt r.ring.capacity to
                then told_as EPERM (may_grow charges.limits (sym root_is j) (sym (rows.kept.charged.users r.owner) j)
                (sym rows.kept.charged.total j) r.ring.capacity to)
                else refuse_if (nat_lt to (length r.ring.segments)) EBUSY) to (to * PAGE_SIZE))

            -- it is refused, whatever the reason, or nothing stands against it
            pub told : (m : Namespace) (charges' : UserPages) (r' : Pipe) (fault : Fault)
                → Resizing charges charges' r r' root to (Err fault)
                → Says n m (Err fault) (sets bytes n) × (fault ≡ faults.NoMemory → IsOk (sets bytes n))
            told m charges' r' (faults.Errno e) z =
                (verdict_is ∙ ap (λ v. tests false false v to (to * PAGE_SIZE)) z.0, λ none. absurd (cc))
            told m charges' r' faults.NoMemory z =
                (tt, λ none. subst IsOk (sym (verdict_is ∙ ap (λ v. tests false false v to (to * PAGE_SIZE)) z.0)) refl)

            pub resized : (charges' : UserPages) (r' : Pipe) → Resizes charges charges' r r' root to
                → Makes n (left charges' r') (sets bytes n) (Num (to * PAGE_SIZE))
            resized charges' r' z =
                makes_over (resized-whole r' charges' z).kept.tied files files_made view z.charges.limits
                (resized-joined r' charges' z) (sets bytes) (Num (to * PAGE_SIZE))
                (ap (sets bytes) view ∙ verdict_is ∙ ap (λ v. tests false false v to (to * PAGE_SIZE)) z.may
                ∙ ap (λ t. Ok (done t (to * PAGE_SIZE))) (sym (shows_it r' charges' z)))
