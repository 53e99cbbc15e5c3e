-- The first try of a write: it comes to its end at once, or stops short of it; and whether a descriptor's description
-- has O_NONBLOCK.

use Rattle.std.proofs.Common.{◌≡◌, ℕ, zero, suc, ◌<◌, ◌≤◌, Bool, true, false, List, length, nat_eq, nat_le, Some, None}
use Rattle.std.proofs.Common.{not, Option, Result, Ok, Err, inl, inr, if◌then◌else◌, refl, sym, ap, subst, ◌∙◌, arith}
use Rattle.std.proofs.lemmas.Bool.{eqb-true, eqb-false, le-leb, lt-leb}
use Rattle.pf_tables.proofs.Common.{at, put_at, refuse_if, or_refuse, ◌>>◌, EBADF, Side, ready_in, end_of_row}
use Rattle.pf_tables.proofs.Common.{Files, Limits, ◌>>=◌, Queue, room_of, Passed, itself, State, End, ready, readers}
use Rattle.pf_tables.proofs.Common.{PIPE_BUF, MAX_WRITE, Errno, find, queue_of, Window, UserPages, Namespace, meaning}
use Rattle.pf_tables.proofs.Common.{pipe_meaning, ProcessRows, DescriptionRows, PipeRows, Description, Pipe, Key}
use Rattle.pf_tables.proofs.Common.{state_of, end_in, Tied, Whole, attempted}
use Rattle.pf_machine.specs.Calls.{Writing}
use Rattle.pf_machine.specs.Progress.{portion, put_some, write_now}
use Rattle.pf_machine.specs.State.{Process, end_of}
use Rattle.pf_machine.specs.Transfers.{try_write}
use Rattle.pf_base.specs.declared.progress.Progress.TheVariants.{Moved}
use Rattle.pf_base.specs.declared.progress.Side.TheVariants.{Write}
use Rattle.pf_frame.specs.declared.frames.Frames.{Ghosts}
use Rattle.pf_tables.specs.Door.{Serves}
use Rattle.pf_base.specs.declared.fault.Fault.{Fault}
use Rattle.pf_base.specs.declared.fault.Fault.TheVariants as faults
use Rattle.pf_base.specs.declared.progress.Progress.{Progress}
use Rattle.pf_tables.specs.declared.tables.transfers.FirstWrite.{FirstWrite}
use Rattle.pf_tables.specs.declared.tables.transfers.FirstWrite.TheVariants as tries
use Rattle.pf_tables.specs.Rows.{description_in, has}
use Rattle.pf_tables.specs.Told.{flag_of, is_nonblocking_at, IsDone, IsShort, Put, PutShort, CameFirst, Stops}
use Rattle.pf_tables.specs.Told.{WroteFirst}
use Rattle.pf_tables.proofs.Ends.{end_of_rows, kept_ends}
use Rattle.pf_tables.proofs.Refusals.{both_came, not_refused, same_ok}
use Rattle.pf_tables.proofs.Transfers.{tried_write, counts, passed-whole, same-whole, same_view, wrote, after}

-- How far a write comes

-- P holds of both branches
branch : {X : Type 0} (P : X → Type 0) (b : Bool) (x y : X) → (b ≡ true → P x) → (b ≡ false → P y)
    → P (if b then x else y)
branch P true x y h k = h refl
branch P false x y h k = k refl

-- where there is room for all bytes, all of them go in
portion_all : (whole : Bool) (n room : ℕ) → n ≤ room → portion whole n room ≡ n
portion_all true n room fits = ap (λ b. if b then n else 0) (le-leb n room fits)
portion_all false n room fits = omega (arith, fits)

-- and fewer where there is not
portion_short : (whole : Bool) (n room : ℕ) → room < n → portion whole n room < n
portion_short true n room short =
    let none : portion true n room ≡ 0 = ap (λ b. if b then n else 0) (lt-leb n room short) in omega
    (arith, none, short)
portion_short false n room short = omega (arith, short)

positive : (k : ℕ) → nat_eq k 0 ≡ false → 0 < k
positive zero e = absurd (eqb-false 0 0 e refl)
positive (suc n) e = omega arith

module _ (q : Queue) (whole : Bool) (x : List ℕ) where
  abbrev Ends : Passed → Type 0
  Ends p = IsDone p.progress (length x)

  abbrev IsCut : Passed → Type 0
  IsCut p = IsShort p.progress (length x)

  all_put : nat_eq (length x) 0 ≡ false → (n : ℕ) → n ≡ length x → Ends (put_some q x n)
  all_put some n is =
      branch Ends (nat_eq n 0) _ _ (λ e. absurd (eqb-false (length x) 0 some (sym is ∙ eqb-true n 0 e)))
      (λ _. inl (ap Moved is))

  some_put : (n : ℕ) → n < length x → IsCut (put_some q x n)
  some_put n short = branch IsCut (nat_eq n 0) _ _ (λ _. tt) (λ _. short)

  -- a write that nobody reads, or that there is room for, comes to its end
  pub ends : (k : ℕ) → (0 < k → length x ≤ room_of q) → Ends (write_now q k whole x)
  ends k fits =
      branch Ends (nat_eq (length x) 0) _ _ (λ none. inl (ap Moved (sym (eqb-true (length x) 0 none)))) (λ some.
      branch Ends (nat_eq k 0) _ _ (λ _. inr refl) (λ e. all_put some _
      (portion_all whole (length x) (room_of q) (fits (positive k e)))))

  -- a write that somebody reads and there is no room for stops short of its end
  pub stops : (k : ℕ) → 0 < k → room_of q < length x → IsCut (write_now q k whole x)
  stops k some short =
      branch IsCut (nat_eq (length x) 0) _ _ (λ none. absurd (omega (arith, eqb-true (length x) 0 none, short))) (λ _.
      branch IsCut (nat_eq k 0) _ _ (λ none. absurd (omega (arith, eqb-true k 0 none, some)))
      (λ _. some_put _ (portion_short whole (length x) (room_of q) short)))

-- What the machine does

-- whether an end has O_NONBLOCK; none where there is no end
abbrev flagged : {X : Type 0} → Result (End X ℕ) Errno → Bool
flagged (Ok e) = e.description.nonblocking
flagged (Err e) = false

flag_found : (s : State Window ℕ) (fd : ℕ) (r : Result (Process ℕ) Errno)
    → flag_of s fd r ≡ flagged (r >>= (λ p. end_of itself s p fd))
flag_found s fd (Ok p) = refl
flag_found s fd (Err e) = refl

-- the flag that the tables find is the machine's
module _ {ps : ProcessRows} {ds : DescriptionRows} {pipes : PipeRows} (tied : Tied ps ds pipes) {limits : Limits}
    {files : Files} {files_made : ℕ} {n : Namespace}
    (view : record { limits = limits; state = state_of ps ds pipes files files_made } ≡ n) (pid fd : ℕ) where
  abbrev here : State Window ℕ
  here = state_of ps ds pipes files files_made

  found_flag : {r : Result (End Window ℕ) Errno} → (ready here pid >>= (λ p. end_of itself here p fd)) ≡ r
      → flagged r ≡ is_nonblocking_at n.state pid fd
  found_flag {r} is =
      sym (ap (λ (m : Namespace). is_nonblocking_at m.state pid fd) (sym view)
      ∙ flag_found here fd (ready here pid) ∙ ap flagged is)

  pub flag_told : (d : Description) → end_in None ps ds pid fd ≡ Ok d
      → d.nonblocking ≡ is_nonblocking_at n.state pid fd
  flag_told d h = found_flag ((kept_ends None files files_made tied pid fd).found h).is

  -- for whichever side it was found
  pub found_told : (side : Option Side) (d : Description) → end_in side ps ds pid fd ≡ Ok d
      → d.nonblocking ≡ is_nonblocking_at n.state pid fd
  found_told side d h =
      let of_side : Description → Result Description Errno = λ e. refuse_if (not (has side e)) EBADF >> Ok e in
      let of_key : Key → Result Description Errno = λ k. or_refuse EBADF (description_in ds k) >>= of_side in
      let p = both_came (ready_in ps pid) (λ p. end_of_row side p ds fd) h in
      let k = both_came (or_refuse EBADF (at p.0.descriptors fd)) of_key p.2 in
      let e = both_came (or_refuse EBADF (description_in ds k.0)) of_side k.2 in
      let same : e.0 ≡ d = same_ok (not_refused (not (has side e.0)) EBADF (Ok e.0) e.2).1 in
      flag_told d (ap (λ r. r >>= (λ q. end_of_row None q ds fd)) p.1
      ∙ ap (λ r. r >>= (λ k. or_refuse EBADF (description_in ds k) >>= (λ e. Ok e))) k.1
      ∙ ap (λ r. r >>= (λ e. Ok e)) e.1 ∙ ap Ok same)

  pub no_flag : (e : Errno) → end_in None ps ds pid fd ≡ Err e → false ≡ is_nonblocking_at n.state pid fd
  no_flag e h = found_flag ((kept_ends None files files_made tied pid fd).refused h)

-- a first try of a write into a pipe that was found, which has readers and no room for all bytes, stops short
module _ {files : Files} {files_made : ℕ} {limits : Limits} {charges : UserPages} {es : List (ℕ × Key)}
    {ps : ProcessRows} {ds : DescriptionRows} {pipes : PipeRows} (rows : Whole charges es ps ds pipes) {n : Namespace}
    (view : record { limits = limits; state = state_of ps ds pipes files files_made } ≡ n) {D : Type 0} {F : Ghosts D}
    {x : D} (served : Serves F x n) (d : Description) {r : Pipe}
    (handed : find pipes d.pipe.slot d.pipe.serial ≡ Some r) where
  pub short-whole : (w : List ℕ) (y : D) (r' : Pipe) (o : Result FirstWrite Fault)
      → PutShort F.live x y r r' w d.nonblocking o
      → Whole charges es ps ds (put_at pipes d.pipe.serial (d.pipe.slot, r'))
  short-whole w y r' (Ok (tries.Ended progress)) o = absurd o
  short-whole w y r' (Ok (tries.Short progress)) o = passed-whole rows view served d handed o.1.passes
  short-whole w y r' (Ok (tries.Waits write)) o = passed-whole rows view served d handed o.3.passes
  short-whole w y r' (Err (faults.Errno e)) o = absurd o
  short-whole w y r' (Err faults.NoMemory) o = same-whole rows view served d handed o.2

  module _ (pid fd : ℕ) (w : List ℕ) (h : end_in (Some Write) ps ds pid fd ≡ Ok d) (fits : length w ≤ MAX_WRITE)
      (some : 0 < r.readers) (short : room_of (queue_of (F.live x) r.ring) < length w) where
    abbrev whole : Bool
    whole = nat_le (length w) PIPE_BUF

    stops_at : Stops (attempted (meaning (F.live x) n.state) pid (Writing fd w 0)) (length w)
    stops_at =
        let s = meaning (F.live x) (state_of ps ds pipes files files_made) in
        subst (λ (v : Namespace). Stops (attempted (meaning (F.live x) v.state) pid (Writing fd w 0)) (length w)) view
        (record {
          tried = try_write s (end_of_rows (pipe_meaning (F.live x)) d r) w 0;
          is = tried_write rows view served pid fd w 0 h handed fits;
          short = stops (queue_of (F.live x) r.ring) whole w (readers itself s d.pipe.serial)
              (subst (λ k. 0 < k) (sym (counts rows view served d handed).0) some) short;
        })

    module _ (y : D) (r' : Pipe) where
      came_short : {progress : Progress} → Put F.live x y r r' w progress
          → CameFirst F.live x y n (after rows view served d handed r') pid fd w progress × IsShort progress (length w)
      came_short p = (
        wrote rows view served d handed pid fd p.untouched w 0 whole h fits refl p.passes,
        subst (λ (m : Passed). IsShort m.progress (length w)) p.passes.told
            (stops (queue_of (F.live x) r.ring) whole w r.readers some short),
      )

      pub wrote_short : (o : Result FirstWrite Fault) → PutShort F.live x y r r' w d.nonblocking o
          → WroteFirst F.live x y n (after rows view served d handed r') pid fd w o
      wrote_short (Ok (tries.Ended progress)) o = absurd o
      wrote_short (Ok (tries.Short progress)) o =
          let came = came_short o.1 in
          (came.0, came.1, sym (found_told rows.kept.tied view pid fd (Some Write) d h) ∙ o.0)
      wrote_short (Ok (tries.Waits write)) o =
          let came = came_short o.3 in
          (o.0, came.0, came.1, sym (found_told rows.kept.tied view pid fd (Some Write) d h) ∙ o.1, o.2)
      wrote_short (Err (faults.Errno e)) o = absurd o
      wrote_short (Err faults.NoMemory) o = (
        stops_at,
        (same_view rows view served d handed o.2, o.3),
        sym (found_told rows.kept.tied view pid fd (Some Write) d h) ∙ o.0,
        o.1,
      )
