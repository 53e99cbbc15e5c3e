-- A transfer between two pipes, in the meaning of the state that it leaves.

use Rattle.std.proofs.Common.{◌≡◌, ◌≢◌, ℕ, zero, suc, ◌+◌, ◌<◌, ◌≤◌, ◌^◌, List, [], ◌∷◌, ◌++◌, set, Option, Some, None}
use Rattle.std.proofs.Common.{Result, Ok, Err, nat_eq, refl, sym, ap, subst, ◌∙◌, arith}
use Rattle.std.proofs.lemmas.Bool.{eq-eqb, ne_eqb}
use Rattle.std.proofs.lemmas.List.{set-set, get_or-set_other}
use Rattle.pf_tables.proofs.Common.{sum_by, Window, Files, Limits, ◌>>=◌, ◌>>◌, refuse_if, Segment, at, put_at}
use Rattle.pf_tables.proofs.Common.{clear_at, sum_of, moved, itself, State, End, ready, reading_end, writing_end}
use Rattle.pf_tables.proofs.Common.{with_queue, readers, writers, Tried, sweep, Errno, EINVAL, find, Live, Ring}
use Rattle.pf_tables.proofs.Common.{queue_of, reach, limit, Stands, Keeps, Joined, ring_at, slots_used, UserPages}
use Rattle.pf_tables.proofs.Common.{Namespace, meaning, rings_of, pages, occupied, pipe_meaning, Owns, ProcessRows}
use Rattle.pf_tables.proofs.Common.{DescriptionRows, PipeRows, Description, Pipe, pipe_of, Key, pipes_of, state_of}
use Rattle.pf_tables.proofs.Common.{end_in, Whole, attempted}
use Rattle.pf_machine.proofs.NumberedLaws.{at_within, at-put_same}
use Rattle.pf_machine.specs.Calls.{Bringing}
use Rattle.pf_machine.specs.Progress.{Crossed, cross_now}
use Rattle.pf_machine.specs.State as machine
use Rattle.pf_machine.specs.Transfers.{Ends, try_cross}
use Rattle.pf_base.specs.declared.TheConstants.{MAX_RESERVE}
use Rattle.pf_base.specs.declared.progress.Crossing.{Crossing}
use Rattle.pf_base.specs.declared.progress.Progress.{Progress}
use Rattle.pf_base.specs.declared.progress.Side.TheVariants as sides
use Rattle.pf_fds.specs.Registry.{if_placed}
use Rattle.pf_frame.specs.declared.frames.Frames.{Ghosts}
use Rattle.pf_pipe.specs.Pipe.{Crosses}
use Rattle.pf_ring.specs.Door.{HoldsBoth}
use Rattle.pf_ring.proofs.TableLaws.{no_source, source_at, rings_stand, queue_stays}
use Rattle.pf_tables.proofs.MeaningLaws.{settled-meaning}
use Rattle.pf_tables.proofs.OwnsLaws.{pages-without, pages_within, occupied_pages, used-rings}
use Rattle.pf_tables.specs.Door.{Serves}
use Rattle.pf_tables.specs.Told.{HasCrossed, Refused}
use Rattle.pf_tables.proofs.Ends.{end_of_rows, reaches}
use Rattle.pf_tables.proofs.TablesShown.{find_was}
use Rattle.pf_tables.proofs.TablesSettled.{settled}
use Rattle.pf_tables.proofs.Transfers.{owned, its, counts}
use Rattle.pf_tables.proofs.PipesRing.{there, ring_is, same_pipes, refilled-whole, refilled-joined, refilled-means}

-- two look-ups by one process, and what goes on from both
both : {A B C D : Type 0} (m : Result A Errno) (h k : A → Result B Errno) (test : B → B → Result C Errno)
    (go : C → Result D Errno)
    → (m >>= (λ a. (h a >>= (λ u. k a >>= (λ v. test u v))) >>= go))
    ≡ (((m >>= h) >>= (λ u. (m >>= k) >>= (λ v. test u v))) >>= go)
both (Ok a) h k test go = refl
both (Err e) h k test go = refl

-- a value taken out, another changed, and the first put back
pub set_around : {X : Type 0} (xs : List X) (i k : ℕ) (a b c : X) → i ≢ k
    → set (set (set xs k c) i a) k b ≡ set (set xs k b) i a
set_around [] i k a b c ne = refl
set_around (x ∷ xs) zero zero a b c ne = absurd (ne refl)
set_around (x ∷ xs) zero (suc k) a b c ne = ap (λ ys. a ∷ ys) (set-set xs k c b)
set_around (x ∷ xs) (suc i) zero a b c ne = refl
set_around (x ∷ xs) (suc i) (suc k) a b c ne = ap (λ ys. x ∷ ys) (set_around xs i k a b c (λ e. ne (ap suc e)))

module _ {files : Files} {files_made : ℕ} {limits : Limits} {charges : UserPages} {es : List (ℕ × Key)}
    {ps : ProcessRows} {ds : DescriptionRows} {pipes : PipeRows} (rows : Whole charges es ps ds pipes) {n : Namespace}
    (view : record { limits = limits; state = state_of ps ds pipes files files_made } ≡ n) {D : Type 0} {F : Ghosts D}
    {x : D} (served : Serves F x n) where
  abbrev f : Live
  f = F.live x

  abbrev t : State Window ℕ
  t = state_of ps ds pipes files files_made

  abbrev here : State Segment ℕ
  here = meaning f t

  own : Owns f (record { limits = limits; state = t })
  own = owned rows.kept view served.owns

  -- No count comes near the end of its type: all slots together are within the reservation
  few : (o : Description) (s : Pipe) → find pipes o.pipe.slot o.pipe.serial ≡ Some s → limits.reserve ≤ MAX_RESERVE
      → f.shares + s.ring.capacity < 2 ^ 32
  few o s to most =
      let one : s.ring.capacity ≤ pages t =
      pages_at (pipes_of pipes) o.pipe.serial (pipe_of (o.pipe.slot, s))
      (there ps ds pipes files files_made o.pipe s (find_was pipes o.pipe.slot o.pipe.serial s to)) in
      let all : sum_by slots_used (rings_of t) ≡ occupied t = used-rings (pipes_of pipes) in
      let it : Namespace = record { limits = limits; state = t } in
      omega (arith, own.joined.total, all, one, most, occupied_pages f it own, pages_within f it own)
    where
      pages_at : (xs : List (Option (machine.Pipe Window))) (j : ℕ) (p : machine.Pipe Window) → at xs j ≡ Some p
          → p.queue.capacity ≤ sum_of (λ (q : machine.Pipe Window). q.queue.capacity) xs
      pages_at xs j p h = omega (arith, pages-without xs j p h)

  -- The two pipes that were found, where one is taken out and the other handed out. rest: the pipes that are left
  module _ (i o : Description) (differ : i.pipe.serial ≢ o.pipe.serial) {rest : PipeRows}
      (out : rest ≡ clear_at pipes o.pipe.serial) where
    -- the source is found there as it was
    pub source_is : find rest i.pipe.slot i.pipe.serial ≡ find pipes i.pipe.slot i.pipe.serial
    source_is =
        ap (λ (xs : PipeRows). find xs i.pipe.slot i.pipe.serial) out
        ∙ ap (if_placed i.pipe.slot) (get_or-set_other pipes o.pipe.serial i.pipe.serial None None differ)

    module _ {r s : Pipe} (from : find rest i.pipe.slot i.pipe.serial ≡ Some r)
        (to : find pipes o.pipe.slot o.pipe.serial ≡ Some s) where
      source_stands : at pipes i.pipe.serial ≡ Some (i.pipe.slot, r)
      source_stands = find_was pipes i.pipe.slot i.pipe.serial r (sym source_is ∙ from)

      sink_stands : at pipes o.pipe.serial ≡ Some (o.pipe.slot, s)
      sink_stands = find_was pipes o.pipe.slot o.pipe.serial s to

      source_ring : ring_at (rings_of t) i.pipe.serial ≡ r.ring
      source_ring = ring_is ps ds pipes files files_made i.pipe r source_stands

      pub holds_both : limits.reserve ≤ MAX_RESERVE → HoldsBoth F x r.ring.segments s.ring.segments s.ring.capacity
      holds_both most = record {
        fact = served.fact;
        stands =
            subst (λ (z : Ring). Stands f (r.ring.segments ++ z.segments))
            (ring_is ps ds pipes files files_made o.pipe s sink_stands)
            (subst (λ (z : Ring). Stands f (z.segments ++ (ring_at (rings_of t) o.pipe.serial).segments)) source_ring
            (rings_stand f (rings_of t) i.pipe.serial o.pipe.serial (λ e. differ (sym e)) own.joined));
        few = few o s to most;
      }

      -- what was found is put back as it was, or with other windows
      module _ (r' s' : Pipe) where
        abbrev back : PipeRows
        back = put_at (put_at rest i.pipe.serial (i.pipe.slot, r')) o.pipe.serial (o.pipe.slot, s')

        abbrev mid : PipeRows
        mid = put_at pipes o.pipe.serial (o.pipe.slot, s')

        in_turn : back ≡ put_at mid i.pipe.serial (i.pipe.slot, r')
        in_turn =
            ap (λ (xs : PipeRows). put_at (put_at xs i.pipe.serial (i.pipe.slot, r')) o.pipe.serial (o.pipe.slot, s'))
            out
            ∙ set_around pipes i.pipe.serial o.pipe.serial (Some (i.pipe.slot, r')) (Some (o.pipe.slot, s')) None differ

        same_view : r' ≡ r → s' ≡ s → record { limits = limits; state = state_of ps ds back files files_made } ≡ n
        same_view e d =
            ap (λ xs. record { limits = limits; state = state_of ps ds xs files files_made })
            (in_turn
            ∙ ap (λ (xs : PipeRows). put_at xs i.pipe.serial (i.pipe.slot, r'))
            (same_pipes ps ds pipes files files_made o.pipe s sink_stands s' d)
            ∙ same_pipes ps ds pipes files files_made i.pipe r source_stands r' e) ∙ view

        source_still : at mid i.pipe.serial ≡ Some (i.pipe.slot, r)
        source_still =
            get_or-set_other pipes o.pipe.serial i.pipe.serial (Some (o.pipe.slot, s')) None differ ∙ source_stands

      -- A transfer went from one to the other
      module _ {g : Live} {r' s' : Pipe} {progress : Progress} {m : Crossed}
          (c : Crosses r r' s s' f g progress m) where
        whole_in_turn : Whole charges es ps ds (put_at (mid r' s') i.pipe.serial (i.pipe.slot, r'))
        whole_in_turn =
            refilled-whole ps ds (mid r' s') files files_made i.pipe r (source_still r' s') r' c.source_is
            (refilled-whole ps ds pipes files files_made o.pipe s sink_stands s' c.sink_is rows)

        pub crossed-whole : Whole charges es ps ds (back r' s')
        crossed-whole = subst (Whole charges es ps ds) (sym (in_turn r' s')) whole_in_turn

        -- the frames and the state between the two changes
        abbrev between : Live
        between = c.moves.between

        abbrev u : State Window ℕ
        u = state_of ps ds (mid r' s') files files_made

        source_bound : (q j : ℕ) → reach q r.ring.segments ≤ limit q (ring_at (rings_of t) j).segments
        source_bound =
            subst (λ (z : Ring). (q j : ℕ) → reach q z.segments ≤ limit q (ring_at (rings_of t) j).segments) source_ring
            (source_at f (rings_of t) i.pipe.serial own.joined)

        joined_between : Joined between (rings_of u)
        joined_between =
            refilled-joined ps ds pipes files files_made o.pipe s sink_stands s' c.sink_is own.joined source_bound
            c.moves.copied

        crossed-owns : Owns g (record { limits = limits; state = state_of ps ds (back r' s') files files_made })
        crossed-owns = record {
          joined =
              subst (λ (xs : PipeRows). Joined g (rings_of (state_of ps ds xs files files_made))) (sym (in_turn r' s'))
              (refilled-joined ps ds (mid r' s') files files_made i.pipe r (source_still r' s') r' c.source_is
              joined_between (no_source (rings_of u)) c.moves.dropped);
          reserve = own.reserve ∙ sym (c.moves.dropped.reservation ∙ c.moves.copied.reservation);
        }

        -- what was put shows the same once the source has lost it
        sink_stays : queue_of between s'.ring ≡ queue_of g s'.ring
        sink_stays =
            sym (subst (λ (z : Ring). queue_of g z ≡ queue_of between z)
            (ring_is ps ds (mid r' s') files files_made o.pipe s'
            (at-put_same pipes o.pipe.serial (Some (o.pipe.slot, s'))
            (at_within pipes o.pipe.serial (o.pipe.slot, s) sink_stands)))
            (queue_stays between g (rings_of u) i.pipe.serial o.pipe.serial r'.ring [] joined_between
            (subst (λ (z : Ring). Keeps [] z.segments r'.ring.segments between g)
            (sym (ring_is ps ds (mid r' s') files files_made i.pipe r (source_still r' s'))) c.moves.dropped)
            (λ e. differ (sym e))))

        crossed-state : meaning g (state_of ps ds (back r' s') files files_made)
            ≡ sweep itself (with_queue (with_queue here o.pipe.serial m.sink) i.pipe.serial m.source)
        crossed-state =
            ap (λ (xs : PipeRows). meaning g (state_of ps ds xs files files_made)) (in_turn r' s')
            ∙ settled-meaning g (state_of ps ds (put_at (mid r' s') i.pipe.serial (i.pipe.slot, r')) files files_made)
            (settled files files_made whole_in_turn.kept.tied)
            ∙ ap (sweep itself) (refilled-means ps ds (mid r' s') files files_made i.pipe r (source_still r' s') r'
            c.source_is joined_between (no_source (rings_of u)) c.moves.dropped
            ∙ ap (λ z. with_queue z i.pipe.serial (queue_of g r'.ring)) (refilled-means ps ds pipes files files_made
            o.pipe s sink_stands s' c.sink_is own.joined source_bound c.moves.copied
            ∙ ap (with_queue here o.pipe.serial) sink_stays)
            ∙ ap (λ (z : Crossed). with_queue (with_queue here o.pipe.serial z.sink) i.pipe.serial z.source)
            (sym c.told))

  -- What the machine does, from what the tables find

  module _ (c : Crossing) (pid source sink m : ℕ) where
    abbrev ends : End Segment ℕ → End Segment ℕ → Ends
    ends i o = record { source = i; sink = o }

    -- the machine's test of two ends, and what goes on from there
    abbrev test : End Segment ℕ → End Segment ℕ → Result Ends Errno
    test i o = refuse_if (nat_eq i.description.pipe o.description.pipe) EINVAL >> Ok (ends i o)

    abbrev tries : Ends → Result Tried Errno
    tries e = Ok (try_cross c here e m)

    -- what the call comes to, by what is found of each end
    abbrev brings : Result (End Segment ℕ) Errno → Result (End Segment ℕ) Errno → Result Tried Errno
    brings y z = (y >>= (λ i. z >>= (λ o. test i o))) >>= tries

    by_ends : {y z : Result (End Segment ℕ) Errno} → (ready here pid >>= (λ p. reading_end itself here p source)) ≡ y
        → (ready here pid >>= (λ p. writing_end itself here p sink)) ≡ z
        → attempted (meaning f n.state) pid (Bringing c source sink m) ≡ brings y z
    by_ends {y} {z} from to =
        subst (λ (v : Namespace). attempted (meaning f v.state) pid (Bringing c source sink m) ≡ brings y z) view
        (both (ready here pid) (λ p. reading_end itself here p source) (λ p. writing_end itself here p sink) test tries
        ∙ (λ j. brings (from j) (to j)))

    pub no_source_end : {e : Errno} → end_in (Some sides.Read) ps ds pid source ≡ Err e
        → Refused F.live x x n n pid (Bringing c source sink m) e
    no_source_end h = (by_ends ((its rows view served pid source (Some sides.Read)).refused h) refl, (refl, refl))

    module _ {i : Description} (reads : end_in (Some sides.Read) ps ds pid source ≡ Ok i) where
      pub no_sink_end : {e : Errno} → end_in (Some sides.Write) ps ds pid sink ≡ Err e
          → Refused F.live x x n n pid (Bringing c source sink m) e
      no_sink_end h = (
        by_ends ((its rows view served pid source (Some sides.Read)).found reads).is
            ((its rows view served pid sink (Some sides.Write)).refused h),
        (refl, refl),
      )

      module _ {o : Description} (writes : end_in (Some sides.Write) ps ds pid sink ≡ Ok o) where
        pub one_pipe : i.pipe.serial ≡ o.pipe.serial
            → Refused F.live x x n n pid (Bringing c source sink m) EINVAL
        one_pipe e =
            let from = (its rows view served pid source (Some sides.Read)).found reads in
            let to = (its rows view served pid sink (Some sides.Write)).found writes in (
              by_ends from.is to.is
                  ∙ ap (λ b. (refuse_if b EINVAL >> Ok (ends (end_of_rows (pipe_meaning f) i from.pipe)
                  (end_of_rows (pipe_meaning f) o to.pipe))) >>= tries) (eq-eqb i.pipe.serial o.pipe.serial e),
              (refl, refl),
            )

        -- What it left, over a door that went from x to y
        module _ (differ : i.pipe.serial ≢ o.pipe.serial) {rest : PipeRows}
            (out : rest ≡ clear_at pipes o.pipe.serial) {r s : Pipe}
            (from : find rest i.pipe.slot i.pipe.serial ≡ Some r)
            (to : find pipes o.pipe.slot o.pipe.serial ≡ Some s) where
          abbrev those : Ends
          those = ends (end_of_rows (pipe_meaning f) i r) (end_of_rows (pipe_meaning f) o s)

          was : find pipes i.pipe.slot i.pipe.serial ≡ Some r
          was = sym (source_is i o differ out) ∙ from

          is_tried : attempted (meaning f n.state) pid (Bringing c source sink m) ≡ Ok (try_cross c here those m)
          is_tried =
              by_ends (reaches (its rows view served pid source (Some sides.Read)) reads was)
              (reaches (its rows view served pid sink (Some sides.Write)) writes to)
              ∙ ap (λ b. (refuse_if b EINVAL >> Ok those) >>= tries) (ne_eqb i.pipe.serial o.pipe.serial differ)

          abbrev goes : ℕ → ℕ → Crossed
          goes writing reading = cross_now c (queue_of f r.ring) (queue_of f s.ring) writing reading m

          same_result : goes r.writers s.readers
              ≡ goes (writers itself here i.pipe.serial) (readers itself here o.pipe.serial)
          same_result =
              λ j. goes (sym (counts rows view served i was).1 j) (sym (counts rows view served o to).0 j)

          -- in whatever form the rows are given
          pub arrived : {y : D} {r' s' : Pipe} {progress : Progress}
              → Crosses r r' s s' f (F.live y) progress (goes r.writers s.readers)
              → (moved progress ≡ 0 → (r' ≡ r) × (s' ≡ s) × (y ≡ x)) → {after : PipeRows}
              → after ≡ put_at (put_at rest i.pipe.serial (i.pipe.slot, r')) o.pipe.serial (o.pipe.slot, s')
              → HasCrossed F.live x y n (record { limits = limits; state = state_of ps ds after files files_made }) pid
              (Bringing c source sink m) (Ok progress)
          arrived {y} {r'} {s'} {progress} crosses untouched {after} e =
              subst (λ (xs : PipeRows). HasCrossed F.live x y n (record {
                limits = limits;
                state = state_of ps ds xs files files_made;
              }) pid (Bringing c source sink m) (Ok progress)) (sym e) (record {
                tried = try_cross c here those m;
                is = is_tried;
                progress_is = ap (λ (z : Crossed). z.progress) (sym same_result ∙ crosses.told);
                holds = tt;
                owns = crossed-owns i o differ out from to crosses;
                limits = ap (λ (z : Namespace). z.limits) view;
                state =
                    crossed-state i o differ out from to
                    (subst (Crosses r r' s s' f (F.live y) progress) same_result crosses);
                untouched = λ zero. let same = untouched zero in
                    (same_view i o differ out from to r' s' same.0 same.1, same.2);
              })
