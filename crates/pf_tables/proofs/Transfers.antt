-- A transfer through one pipe, in the meaning of the state that it leaves.

use Rattle.std.proofs.Common.{◌≡◌, ℕ, ◌+◌, ◌-◌, ◌<◌, ◌≤◌, Bool, List, ◌++◌, length, take, drop, Option, Some, None}
use Rattle.std.proofs.Common.{IsSome, Result, Ok, Err, nat_le, nat_lt, refl, sym, ap, subst, ◌∙◌, arith}
use Rattle.std.proofs.lemmas.Bool.{lt-ltb, le-ltb}
use Rattle.std.proofs.lemmas.List.{take_all, length-drop}
use Rattle.pf_tables.proofs.Refusals.{bind-bind}
use Rattle.pf_tables.proofs.Common.{Files, Limits, ◌>>=◌, ◌>>◌, refuse_if, Segment, Queue, Window, at, put_at, Passed}
use Rattle.pf_tables.proofs.Common.{moved, itself, State, End, ready, with_queue, readers, writers, Tried, sweep}
use Rattle.pf_tables.proofs.Common.{PIPE_BUF, MAX_WRITE, Errno, EINVAL, Side, find, Live, IsSound, queue_of, Stands}
use Rattle.pf_tables.proofs.Common.{UserPages, Namespace, meaning, rings_of, pipe_meaning, Owns, ProcessRows}
use Rattle.pf_tables.proofs.Common.{DescriptionRows, PipeRows, Description, Pipe, pipe_of, pipes_of, state_of, end_in}
use Rattle.pf_tables.proofs.Common.{Key, Kept, Whole, attempted, bytes_of}
use Rattle.pf_base.specs.declared.TheConstants.{BYTES_IN_PLACE}
use Rattle.std.specs.Prelude.{min}
use Rattle.pf_machine.specs.Queue.{taken}
use Rattle.pf_machine.specs.Calls.{Transfer, Reading, Writing}
use Rattle.pf_machine.specs.Progress.{read_now, write_now}
use Rattle.pf_machine.specs.Transfers.{try_read, try_write}
use Rattle.pf_base.specs.declared.progress.Progress.{Progress}
use Rattle.pf_base.specs.declared.progress.Side.TheVariants as sides
use Rattle.pf_frame.specs.declared.frames.Frames.{Ghosts}
use Rattle.pf_pipe.specs.Pipe.{Passes, SameButWindows}
use Rattle.pf_ring.specs.Door.{Holds, Affords}
use Rattle.pf_ring.specs.Laid.{laid}
use Rattle.pf_ring.specs.Windows.{bytes_in}
use Rattle.pf_ring.proofs.TableLaws.{bytes_number, no_source}
use Rattle.pf_tables.proofs.MeaningLaws.{settled-meaning}
use Rattle.pf_tables.proofs.OwnsLaws.{stands_at, credits_at}
use Rattle.pf_tables.specs.Buffers.{HasReadInto, HasReadTruncated}
use Rattle.pf_tables.specs.Door.{Serves}
use Rattle.pf_tables.specs.Told.{Came, HandsMany, Refused, Wrote}
use Rattle.pf_tables.proofs.Buffers as buffers
use Rattle.pf_tables.proofs.Ends.{side_end, end_of_rows, Agree, ends, reaches, pipe_there, counted}
use Rattle.pf_tables.proofs.PipesRing.{there, same_pipes, refilled-whole, refilled-joined, refilled-means}
use Rattle.pf_tables.proofs.TablesShown.{find_was}
use Rattle.pf_tables.proofs.TablesSettled.{settled}

-- the rest of a list, cut at its end
pub rest_is : (n : ℕ) (x : List ℕ) → take (length x - n) (drop n x) ≡ drop n x
rest_is n x = take_all (length x - n) (drop n x) (omega (arith, length-drop n x))

-- The pipe that was found, where it is handed out

module _ {files : Files} {files_made : ℕ} {f : Live} {limits : Limits} {charges : UserPages} {ps : ProcessRows}
    {ds : DescriptionRows} {pipes : PipeRows} (kept : Kept charges ps ds pipes) {n : Namespace}
    (view : record { limits = limits; state = state_of ps ds pipes files files_made } ≡ n) (owns : Owns f n) where
  pub owned : Owns f (record { limits = limits; state = state_of ps ds pipes files files_made })
  owned = subst (Owns f) (sym view) owns

  module _ (d : Description) {r : Pipe} (handed : find pipes d.pipe.slot d.pipe.serial ≡ Some r) where
    row : at (pipes_of pipes) d.pipe.serial ≡ Some (pipe_of (d.pipe.slot, r))
    row = there ps ds pipes files files_made d.pipe r (find_was pipes d.pipe.slot d.pipe.serial r handed)

    pub stands_in : Stands f r.ring.segments
    stands_in = stands_at f (state_of ps ds pipes files files_made) d.pipe.serial _ owned.joined row

    credits : IsSound f → f.held + (r.ring.capacity - length r.ring.segments) ≤ f.reserved
    credits sound = credits_at f (state_of ps ds pipes files files_made) d.pipe.serial _ sound owned.joined row

module _ {files : Files} {files_made : ℕ} {limits : Limits} {charges : UserPages} {es : List (ℕ × Key)}
    {ps : ProcessRows} {ds : DescriptionRows} {pipes : PipeRows} (rows : Whole charges es ps ds pipes) {n : Namespace}
    (view : record { limits = limits; state = state_of ps ds pipes files files_made } ≡ n) {D : Type 0} {F : Ghosts D}
    {x : D} (served : Serves F x n) where
  abbrev t : State Window ℕ
  t = state_of ps ds pipes files files_made

  abbrev s : State Segment ℕ
  s = meaning (F.live x) t

  own : Owns (F.live x) (record { limits = limits; state = t })
  own = owned rows.kept view served.owns

  -- What the machine does, from what the tables find

  abbrev reads : ℕ → End Segment ℕ → Result Tried Errno
  reads m e = Ok (try_read s e m)

  abbrev writes : List ℕ → ℕ → Bool → End Segment ℕ → Result Tried Errno
  writes w written long e = refuse_if long EINVAL >> Ok (try_write s e w written)

  module _ (pid fd : ℕ) where
    pub its : (side : Option Side) → Agree (pipe_meaning (F.live x)) pipes (end_in side ps ds pid fd)
        (ready s pid >>= (λ p. side_end side s p fd))
    its side = ends (pipe_meaning (F.live x)) side files files_made rows.kept.tied pid fd

    pub pipe_stands : (side : Option Side) {d : Description} → end_in side ps ds pid fd ≡ Ok d
        → IsSome (find pipes d.pipe.slot d.pipe.serial)
    pipe_stands side h = pipe_there (its side) h

    -- the call is what goes on from the end, at whatever is found of that
    goes : (side : Option Side) (go : End Segment ℕ → Result Tried Errno) {m : Result (End Segment ℕ) Errno}
        → (ready s pid >>= (λ p. side_end side s p fd)) ≡ m
        → (ready s pid >>= (λ p. side_end side s p fd >>= go)) ≡ (m >>= go)
    goes side go is = bind-bind (ready s pid) (λ p. side_end side s p fd) go ∙ ap (λ r. r >>= go) is

    refused : (call : Transfer) {e : Errno} → attempted s pid call ≡ Err e → Refused F.live x x n n pid call e
    refused call {e} is =
        (subst (λ (v : Namespace). attempted (meaning (F.live x) v.state) pid call ≡ Err e) view is, (refl, refl))

    pub no_read : (m : ℕ) {e : Errno} → end_in (Some sides.Read) ps ds pid fd ≡ Err e
        → Refused F.live x x n n pid (Reading fd m) e
    no_read m h = refused (Reading fd m) (goes (Some sides.Read) (reads m) ((its (Some sides.Read)).refused h))

    module _ (w : List ℕ) (written : ℕ) where
      pub no_write : {e : Errno} → end_in (Some sides.Write) ps ds pid fd ≡ Err e
          → Refused F.live x x n n pid (Writing fd w written) e
      no_write h =
          refused (Writing fd w written)
          (goes (Some sides.Write) (writes w written (nat_lt MAX_WRITE (length w)))
          ((its (Some sides.Write)).refused h))

      -- a write from the end that was found
      written_at : {e : End Segment ℕ} {long : Bool}
          → (ready s pid >>= (λ p. side_end (Some sides.Write) s p fd)) ≡ Ok e → nat_lt MAX_WRITE (length w) ≡ long
          → attempted s pid (Writing fd w written) ≡ writes w written long e
      written_at {e} found is =
          goes (Some sides.Write) (writes w written (nat_lt MAX_WRITE (length w))) found
          ∙ ap (λ b. writes w written b e) is

      pub too_long : {d : Description} → end_in (Some sides.Write) ps ds pid fd ≡ Ok d → MAX_WRITE < length w
          → Refused F.live x x n n pid (Writing fd w written) EINVAL
      too_long h long =
          let found = (its (Some sides.Write)).found h in
          refused (Writing fd w written) (written_at found.is (lt-ltb MAX_WRITE (length w) long))

      pub tried_write : {d : Description} {r : Pipe} → end_in (Some sides.Write) ps ds pid fd ≡ Ok d
          → find pipes d.pipe.slot d.pipe.serial ≡ Some r → length w ≤ MAX_WRITE
          → attempted s pid (Writing fd w written)
          ≡ Ok (try_write s (end_of_rows (pipe_meaning (F.live x)) d r) w written)
      tried_write h handed short =
          written_at (reaches (its (Some sides.Write)) h handed) (le-ltb MAX_WRITE (length w) short)

  -- The pipe that was found

  module _ (d : Description) {r : Pipe} (handed : find pipes d.pipe.slot d.pipe.serial ≡ Some r) where
    pub holds : Holds F x r.ring.segments
    holds = record { fact = served.fact; stands = stands_in rows.kept view served.owns d handed }

    pub affords : ((a : D) → F.fact a → IsSound (F.live a)) → Affords F x r.ring.capacity r.ring.segments
    affords sound = record {
      fact = served.fact;
      stands = stands_in rows.kept view served.owns d handed;
      credits = credits rows.kept view served.owns d handed (sound x served.fact);
    }

    was : at pipes d.pipe.serial ≡ Some (d.pipe.slot, r)
    was = find_was pipes d.pipe.slot d.pipe.serial r handed

    -- its counts are the machine's
    pub counts : (readers itself s d.pipe.serial ≡ r.readers) × (writers itself s d.pipe.serial ≡ r.writers)
    counts = counted (pipe_meaning (F.live x)) None files files_made rows.kept.tied 0 0 d.pipe.serial d.pipe.slot r was

    -- a read of it that hands out so many bytes that memory is wanted for them
    pub hands_many : ((a : D) → F.fact a → IsSound (F.live a)) → (pid fd m : ℕ)
        → end_in (Some sides.Read) ps ds pid fd ≡ Ok d → BYTES_IN_PLACE < min (bytes_in r.ring.segments) m
        → HandsMany (attempted (meaning (F.live x) n.state) pid (Reading fd m))
    hands_many sound pid fd m h many =
        let q : Queue = queue_of (F.live x) r.ring in
        let stands = stands_in rows.kept view served.owns d handed in
        let kept = bytes_number (F.live x) r.ring (sound x served.fact) stands in
        let comes = buffers.reads_some q (writers itself s d.pipe.serial) m (omega (arith, kept, many)) in
        let number = ap moved comes in
        let taken = buffers.as_many_read q (writers itself s d.pipe.serial) m in
        subst (λ (v : Namespace). HandsMany (attempted (meaning (F.live x) v.state) pid (Reading fd m))) view
        (record {
          tried = try_read s (end_of_rows (pipe_meaning (F.live x)) d r) m;
          is = goes pid fd (Some sides.Read) (reads m) (reaches (its pid fd (Some sides.Read)) h handed);
          number = min m (length (bytes_of q));
          progress = comes;
          many = lt-ltb BYTES_IN_PLACE _ (omega (arith, taken, number, kept, many));
        })

    abbrev with_pipe : Pipe → PipeRows
    with_pipe r' = put_at pipes d.pipe.serial (d.pipe.slot, r')

    abbrev pub after : Pipe → Namespace
    after r' = record { limits = limits; state = state_of ps ds (with_pipe r') files files_made }

    module _ {r' : Pipe} (e : r' ≡ r) where
      same_rows : with_pipe r' ≡ pipes
      same_rows = same_pipes ps ds pipes files files_made d.pipe r was r' e

      pub same-whole : Whole charges es ps ds (with_pipe r')
      same-whole = subst (Whole charges es ps ds) (sym same_rows) rows

      pub same_view : after r' ≡ n
      same_view = ap (λ z. record { limits = limits; state = state_of ps ds z files files_made }) same_rows ∙ view

    -- A transfer went through it
    module _ {g : Live} {r' : Pipe} {progress : Progress} {m : Passed}
        (passes : Passes r r' (F.live x) g progress m) where
      same : SameButWindows r r'
      same = record {
        owner = passes.owner;
        readers = passes.readers;
        writers = passes.writers;
        opens = passes.opens;
        capacity = passes.capacity;
        fits = passes.fits;
      }

      pub passed-whole : Whole charges es ps ds (with_pipe r')
      passed-whole = refilled-whole ps ds pipes files files_made d.pipe r was r' same rows

      passed-owns : Owns g (after r')
      passed-owns = record {
        joined =
            refilled-joined ps ds pipes files files_made d.pipe r was r' same own.joined (no_source (rings_of t))
            passes.keeps;
        reserve = own.reserve ∙ sym passes.keeps.reservation;
      }

      passed-state : meaning g (state_of ps ds (with_pipe r') files files_made)
          ≡ sweep itself (with_queue s d.pipe.serial m.queue)
      passed-state =
          settled-meaning g (state_of ps ds (with_pipe r') files files_made)
          (settled files files_made passed-whole.kept.tied)
          ∙ ap (sweep itself)
          (refilled-means ps ds pipes files files_made d.pipe r was r' same own.joined (no_source (rings_of t))
          passes.keeps
          ∙ ap (with_queue s d.pipe.serial) (sym (ap (λ (p : Passed). p.queue) passes.told)))

    abbrev q : Queue
    q = queue_of (F.live x) r.ring

    abbrev e : End Segment ℕ
    e = end_of_rows (pipe_meaning (F.live x)) d r

    -- What it left, over a door that went from x to y
    module _ (pid fd : ℕ) {y : D} {r' : Pipe} {progress : Progress}
        (untouched : moved progress ≡ 0 → (r' ≡ r) × (y ≡ x)) where
      came : {Is : Tried → Type 0} {m : Passed} → Passes r r' (F.live x) (F.live y) progress m → (call : Transfer)
          (z : Tried) → attempted s pid call ≡ Ok z → z.progress ≡ m.progress
          → z.state ≡ with_queue s d.pipe.serial m.queue → (z.progress ≡ progress → Is z)
          → Came F.live x y n (after r') pid call progress Is
      came {Is} {m} passes call z is far state holds =
          let told : z.progress ≡ progress = far ∙ ap (λ (p : Passed). p.progress) passes.told in
          subst (λ (v : Namespace). Came F.live x y v (after r') pid call progress Is) view (record {
            tried = z;
            is = is;
            progress_is = told;
            holds = holds told;
            owns = passed-owns passes;
            limits = refl;
            state = passed-state passes ∙ ap (sweep itself) (sym state);
            untouched = λ zero. let same = untouched zero in (same_view same.0 ∙ sym view, same.1);
          })

      pub wrote : (w : List ℕ) (written : ℕ) (whole : Bool) → end_in (Some sides.Write) ps ds pid fd ≡ Ok d
          → length w ≤ MAX_WRITE → whole ≡ nat_le (length w) PIPE_BUF
          → Passes r r' (F.live x) (F.live y) progress (write_now q r.readers whole (drop written w))
          → Wrote F.live x y n (after r') pid (Writing fd w written) (drop written w) (Ok progress)
      wrote w written whole h short is_whole passes =
          came
          (subst (Passes r r' (F.live x) (F.live y) progress)
          (λ i. write_now q (sym counts.0 i) (is_whole i) (drop written w)) passes)
          (Writing fd w written) (try_write s e w written) (tried_write pid fd w written h handed short) refl refl
          (ap (λ p. take (moved p) (drop written w)))

      pub was_read : {Is : Tried → Type 0} (m : ℕ) → end_in (Some sides.Read) ps ds pid fd ≡ Ok d
          → Passes r r' (F.live x) (F.live y) progress (read_now q r.writers m)
          → ((z : Tried) → z.bytes ≡ taken q (moved progress) → Is z)
          → Came F.live x y n (after r') pid (Reading fd m) progress Is
      was_read m h passes holds =
          came
          (subst (Passes r r' (F.live x) (F.live y) progress) (ap (λ w. read_now q w m) (sym counts.1)) passes)
          (Reading fd m) (try_read s e m)
          (goes pid fd (Some sides.Read) (reads m) (reaches (its pid fd (Some sides.Read)) h handed)) refl refl
          (λ told. holds (try_read s e m) (ap (λ p. taken q (moved p)) told))

      -- into a buffer, the bytes of which lie at its front
      pub was_read_into : (old new : List ℕ) → end_in (Some sides.Read) ps ds pid fd ≡ Ok d
          → new ≡ taken q (moved progress) ++ drop (moved progress) old
          → Passes r r' (F.live x) (F.live y) progress (read_now q r.writers (length old))
          → HasReadInto F.live x y n (after r') pid fd old new (Ok progress)
      was_read_into old new h lie passes =
          let is : moved (read_now q r.writers (length old)).progress ≡ moved progress =
          ap (λ (p : Passed). moved p.progress) passes.told in (
            was_read (length old) h passes
                (λ z bytes. bytes ∙ sym (buffers.front q r.writers (moved progress) old new is lie)),
            buffers.lies q r.writers (moved progress) old new is lie,
          )

      -- and where they are more than it has room for
      pub was_truncated : (m : ℕ) (old new : List ℕ) → end_in (Some sides.Read) ps ds pid fd ≡ Ok d
          → new ≡ laid (taken q (moved progress)) old
          → Passes r r' (F.live x) (F.live y) progress (read_now q r.writers m)
          → HasReadTruncated F.live x y n (after r') pid (Reading fd m) old new (Ok progress)
      was_truncated m old new h lie passes =
          was_read m h passes (λ z bytes. (
            ap (λ (xs : List ℕ). length xs) bytes
                ∙ subst (λ (k : ℕ). length (taken q k) ≡ k) (ap (λ (p : Passed). moved p.progress) passes.told)
                (buffers.as_many_read q r.writers m),
            lie ∙ ap (λ (xs : List ℕ). laid xs old) (sym bytes),
          ))
