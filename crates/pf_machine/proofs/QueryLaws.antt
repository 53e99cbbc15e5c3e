-- Who can go on, said of each kind of call by what the pipes hold and who reads and writes them: no attempt is made.

use Rattle.std.proofs.Common.{◌≡◌, ℕ, zero, suc, ◌+◌, ◌-◌, ◌≤◌, Bool, true, false, not, ◌&&◌, ◌||◌, List, length, take, drop, Option, Some, None, is_some, Result, Ok, Err, refl, ap, ◌∙◌, arith, nat_eq, nat_lt, nat_le, if◌then◌else◌, length-drop}
use Rattle.std.proofs.lemmas.Bool.Decides.{nat_tests}
use Rattle.std.specs.Prelude.{⊤, min}
use Rattle.std.specs.Option.{option_map, option_and_then}
use Rattle.pf_base.specs.Limits.{Limits}
use Rattle.pf_base.specs.declared.TheConstants.{PIPE_BUF, MAX_WRITE}
use Rattle.pf_base.specs.declared.errno.Errno.{Errno}
use Rattle.pf_base.specs.declared.errno.Errno.TheVariants.{EBADF, EINVAL, EPIPE, ESRCH}
use Rattle.pf_base.specs.declared.progress.Crossing.{Crossing}
use Rattle.pf_base.specs.declared.progress.Progress.{Progress}
use Rattle.pf_base.specs.declared.progress.Progress.TheVariants.{Moved, WouldBlock, EndOfFile, NoReader}
use Rattle.pf_base.specs.declared.step.Reply.TheVariants.{Num}
use Rattle.pf_base.specs.declared.step.Step.TheVariants.{Resume}
use Rattle.pf_machine.specs.Refusals.{◌>>=◌, ◌>>◌, refuse_if, or_refuse}
use Rattle.pf_machine.specs.Queue as queue
use Rattle.pf_machine.specs.Queue.{Segment, Queue, bytes_of, room_of, free_of, after_take, tee_number, after_tee}
use Rattle.pf_machine.specs.Progress.{Passed, Crossed, read_now, write_now, cross_now, portion, put_some, is_empty, source_after}
use Rattle.pf_machine.specs.Numbered.{at, change_at}
use Rattle.pf_machine.proofs.NumberedLaws.{at-put_same, at_within}
use Rattle.pf_machine.specs.Calls.{Reading, Writing, Bringing, Call, Opening, Moving, written_of}
use Rattle.pf_machine.specs.State.{itself, State, Process, End, Outcome, process, living, end_at, reading_end, writing_end, settle, change_process, waiting}
use Rattle.pf_machine.specs.Counts.{readers, writers}
use Rattle.pf_machine.specs.Transfers.{Tried, Ends, two_ends, try_read, try_write, try_cross}
use Rattle.pf_machine.specs.Attempts.{Attempt, Finished, Waits, read_told, write_told, cross_told, given, other_opens, open_told, transfer_told, attempt, again, resume}
use Rattle.pf_machine.specs.Machine.{call_of, is_parked, step_of, swept}
use Rattle.pf_machine.specs.Replies.{written_in}
use Rattle.pf_machine.specs.Queries.{came_further, can_go_on, read_goes_on, write_goes_on, cross_goes_on}

module _ {E : Type 0} where
  -- a call that is refused is over
  abbrev pub or_is_over : (E → Bool) → Result E Errno → Bool
  or_is_over test (Ok e) = test e
  or_is_over test (Err err) = true

-- by the kind of the call
abbrev pub goes_on : State Segment ℕ → Process ℕ → Call ℕ → Bool
goes_on s p (Opening n kept) = or_is_over (λ e. nat_lt kept (other_opens e)) (or_refuse EBADF (end_at itself s n))
goes_on s p (Moving (Reading fd n)) =
    or_is_over (λ e. read_goes_on e.pipe.queue (writers itself s e.description.pipe) n) (reading_end itself s p fd)
goes_on s p (Moving (Writing fd x written)) =
    or_is_over (λ e. nat_lt MAX_WRITE (length x)
    || write_goes_on e.pipe.queue (readers itself s e.description.pipe) (nat_le (length x) PIPE_BUF) (length (drop written x)))
    (writing_end itself s p fd)
goes_on s p (Moving (Bringing c source sink n)) =
    or_is_over (λ (e : Ends). cross_goes_on e.source.pipe.queue e.sink.pipe.queue
    (writers itself s e.source.description.pipe) (readers itself s e.sink.description.pipe) n)
    (two_ends s p source sink)

-- The same, of how far an attempt comes

abbrev is_blocked : Progress → Bool
is_blocked (Moved n) = false
is_blocked WouldBlock = true
is_blocked EndOfFile = false
is_blocked NoReader = false

read-blocked : (q : Queue) (writing n : ℕ) → not (is_blocked (read_now q writing n).progress) ≡ read_goes_on q writing n
read-blocked q writing n = by_tests (nat_eq n 0) (nat_lt 0 (length (bytes_of q))) (nat_eq writing 0)
  where
    passed : Bool → Bool → Bool → Passed
    passed a b c =
        if a then record { progress = Moved 0; queue = q }
        else if b then record { progress = Moved (min n (length (bytes_of q))); queue = after_take q n }
        else if c then record { progress = EndOfFile; queue = q }
        else record { progress = WouldBlock; queue = q }

    by_tests : (a b c : Bool) → not (is_blocked (passed a b c).progress) ≡ (a || b || c)
    by_tests true b c = refl
    by_tests false true c = refl
    by_tests false false true = refl
    by_tests false false false = refl

cross-blocked : (c : Crossing) (source sink : Queue) (writing reading n : ℕ)
    → not (is_blocked (cross_now c source sink writing reading n).progress) ≡ cross_goes_on source sink writing reading n
cross-blocked c source sink writing reading n =
    by_tests (nat_eq n 0) (nat_eq reading 0) (is_empty source) (nat_eq writing 0) (nat_eq (free_of sink) 0)
  where
    crossed : Bool → Bool → Bool → Bool → Bool → Crossed
    crossed a b none ended full =
        if a then record { progress = Moved 0; source = source; sink = sink }
        else if b then record { progress = NoReader; source = source; sink = sink }
        else if none && ended then record { progress = EndOfFile; source = source; sink = sink }
        else if none || full then record { progress = WouldBlock; source = source; sink = sink }
        else record {
          progress = Moved (tee_number source sink n);
          source = source_after c source sink n;
          sink = after_tee source sink n;
        }

    by_tests : (a b none ended full : Bool)
        → not (is_blocked (crossed a b none ended full).progress) ≡ (a || b || (if none then ended else not full))
    by_tests true b none ended full = refl
    by_tests false true none ended full = refl
    by_tests false false true true full = refl
    by_tests false false true false full = refl
    by_tests false false false ended true = refl
    by_tests false false false ended false = refl

-- a write that comes so far is finished, or more of it went in
abbrev write_further : ℕ → ℕ → Progress → Bool
write_further all written (Moved n) = nat_eq (written + n) all || not (nat_eq (written + n) written)
write_further all written WouldBlock = false
write_further all written EndOfFile = false
write_further all written NoReader = true

write-further : (q : Queue) (reading : ℕ) (whole : Bool) (x rest : List ℕ) (written : ℕ) → written + length rest ≡ length x
    → write_further (length x) written (write_now q reading whole rest).progress ≡ write_goes_on q reading whole (length rest)
write-further q reading whole x rest written all = by_tests (nat_eq (length rest) 0) (nat_eq reading 0) refl
  where
    or_true : (b : Bool) → (b || true) ≡ true
    or_true true = refl
    or_true false = refl

    more : (n : ℕ) → nat_eq n 0 ≡ false → nat_eq (written + n) written ≡ false
    more n some = grind (arith, nat_tests)

    put : ℕ → Bool → Passed
    put n none =
        if none then record { progress = WouldBlock; queue = q }
        else record { progress = Moved n; queue = queue.put q (take n rest) }

    by_number : (n : ℕ) (none : Bool) → nat_eq n 0 ≡ none → write_further (length x) written (put n none).progress ≡ not none
    by_number n true is = refl
    by_number n false is =
        ap (λ b. nat_eq (written + n) (length x) || not b) (more n is) ∙ or_true (nat_eq (written + n) (length x))

    passed : Bool → Bool → Passed
    passed a b =
        if a then record { progress = Moved 0; queue = q }
        else if b then record { progress = NoReader; queue = q }
        else put_some q rest (portion whole (length rest) (room_of q))

    by_tests : (a b : Bool) → nat_eq (length rest) 0 ≡ a
        → write_further (length x) written (passed a b).progress ≡ (a || b || not (nat_eq (portion whole (length rest) (room_of q)) 0))
    by_tests true b none =
        let end : nat_eq (written + 0) (length x) ≡ true = let sum = all in grind (arith, nat_tests) in
        ap (λ t. t || not (nat_eq (written + 0) written)) end
    by_tests false true none = refl
    by_tests false false some =
        by_number (portion whole (length rest) (room_of q)) (nat_eq (portion whole (length rest) (room_of q)) 0) refl

-- What a Resume says of the attempt

-- whoever is made to wait waits in this call
call_after : (t : State Segment ℕ) (pid : ℕ) (p : Process ℕ) (o : Option (Call ℕ)) → process t pid ≡ Some p
    → call_of (change_process (waiting o) t pid) pid ≡ o
call_after t zero p o here = absurd (cc)
call_after t (suc i) p o here =
    let same : suc i - 1 ≡ i = omega arith in
    ap (λ j. option_and_then (λ (q : Process ℕ). q.parked) (at (change_at (waiting o) t.processes j) i)) same
    ∙ ap (option_and_then (λ (q : Process ℕ). q.parked))
    (at-put_same t.processes i (option_map (waiting o) (at t.processes i)) (at_within t.processes i p here)
    ∙ ap (option_map (waiting o)) here)

-- a write that waits has no more behind it than it has bytes
abbrev pub IsCut : Call ℕ → Type 0
IsCut (Opening n kept) = ⊤
IsCut (Moving (Reading fd n)) = ⊤
IsCut (Moving (Writing fd x written)) = written ≤ length x
IsCut (Moving (Bringing c source sink n)) = ⊤

module _ (s : State Segment ℕ) (pid : ℕ) (p : Process ℕ) (here : process s pid ≡ Some p) where
  -- whether more than `written` bytes of a write went in, or the call is over
  abbrev further : ℕ → Result (Attempt Segment ℕ) Errno → Bool
  further written r =
      let o = swept (again s pid r) in not (is_parked o.reply && nat_eq (written_in (call_of o.state pid)) written)

  waits-further : (t : State Segment ℕ) (call : Call ℕ) (written : ℕ) → process t pid ≡ Some p
      → further written (Ok (Waits t call)) ≡ not (nat_eq (written_of call) written)
  waits-further t call written there = ap (λ o. not (nat_eq (written_in o) written)) (call_after t pid p (Some call) there)

  stays : (t : State Segment ℕ) (call : Call ℕ) → process t pid ≡ Some p → further (written_of call) (Ok (Waits t call)) ≡ false
  stays t call there = waits-further t call (written_of call) there ∙ ap not (eq (written_of call))
    where
      eq : (n : ℕ) → nat_eq n n ≡ true
      eq n = grind (arith, nat_tests)

  read-told : (fd n : ℕ) (t : Tried) → process t.state pid ≡ Some p → (k : Progress)
      → further 0 (read_told (Moving (Reading fd n)) t k) ≡ not (is_blocked k)
  read-told fd n t there (Moved m) = refl
  read-told fd n t there WouldBlock = stays t.state (Moving (Reading fd n)) there
  read-told fd n t there EndOfFile = refl
  read-told fd n t there NoReader = refl

  cross-told : (c : Crossing) (source sink n : ℕ) (t : Tried) → process t.state pid ≡ Some p → (k : Progress)
      → further 0 (cross_told (Moving (Bringing c source sink n)) t k) ≡ not (is_blocked k)
  cross-told c source sink n t there (Moved m) = refl
  cross-told c source sink n t there WouldBlock = stays t.state (Moving (Bringing c source sink n)) there
  cross-told c source sink n t there EndOfFile = refl
  cross-told c source sink n t there NoReader = refl

  write-told : (fd : ℕ) (x : List ℕ) (written : ℕ) (t : Tried) → process t.state pid ≡ Some p → (k : Progress)
      → further written (write_told fd x written t k) ≡ write_further (length x) written k
  write-told fd x written t there (Moved n) = by_rest (nat_eq (written + n) (length x))
    where
      by_rest : (b : Bool) → further written (if b then Ok (Finished t.state (Num (length x))) else Ok (Waits t.state (Moving (Writing fd x (written + n)))))
          ≡ (b || not (nat_eq (written + n) written))
      by_rest true = refl
      by_rest false = waits-further t.state (Moving (Writing fd x (written + n))) written there
  write-told fd x written t there WouldBlock = stays t.state (Moving (Writing fd x written)) there
  write-told fd x written t there EndOfFile = stays t.state (Moving (Writing fd x written)) there
  write-told fd x written t there NoReader = by_none (nat_eq written 0)
    where
      by_none : (b : Bool) → further written (if b then Err EPIPE else Ok (Finished t.state (Num written))) ≡ true
      by_none true = refl
      by_none false = refl

  attempt-further : (call : Call ℕ) → IsCut call → further (written_of call) (attempt s pid p call) ≡ goes_on s p call
  attempt-further (Opening n kept) cut = by_end (or_refuse EBADF (end_at itself s n))
    where
      by_opens : (e : End Segment ℕ) (b : Bool) → further 0 (Ok (if b then given s pid p n else Waits s (Opening n kept))) ≡ b
      by_opens e true = refl
      by_opens e false = stays s (Opening n kept) here

      by_end : (r : Result (End Segment ℕ) Errno) → further 0 (r >>= (λ e. Ok (open_told s pid p n kept e))) ≡ or_is_over (λ e. nat_lt kept (other_opens e)) r
      by_end (Ok e) = by_opens e (nat_lt kept (other_opens e))
      by_end (Err err) = refl
  attempt-further (Moving (Reading fd n)) cut = by_end (reading_end itself s p fd)
    where
      by_end : (r : Result (End Segment ℕ) Errno) → further 0 ((r >>= (λ e. Ok (try_read s e n))) >>= (λ t. transfer_told (Reading fd n) t t.progress))
          ≡ or_is_over (λ e. read_goes_on e.pipe.queue (writers itself s e.description.pipe) n) r
      by_end (Ok e) =
          read-told fd n (try_read s e n) here (try_read s e n).progress
          ∙ read-blocked e.pipe.queue (writers itself s e.description.pipe) n
      by_end (Err err) = refl
  attempt-further (Moving (Bringing c source sink n)) cut = by_ends (two_ends s p source sink)
    where
      by_ends : (r : Result Ends Errno) → further 0 ((r >>= (λ e. Ok (try_cross c s e n))) >>= (λ t. transfer_told (Bringing c source sink n) t t.progress))
          ≡ or_is_over (λ (e : Ends). cross_goes_on e.source.pipe.queue e.sink.pipe.queue (writers itself s e.source.description.pipe) (readers itself s e.sink.description.pipe) n) r
      by_ends (Ok e) =
          cross-told c source sink n (try_cross c s e n) here (try_cross c s e n).progress
          ∙ cross-blocked c e.source.pipe.queue e.sink.pipe.queue (writers itself s e.source.description.pipe) (readers itself s e.sink.description.pipe) n
      by_ends (Err err) = refl
  attempt-further (Moving (Writing fd x written)) cut = by_end (writing_end itself s p fd)
    where
      rest : written + length (drop written x) ≡ length x
      rest = omega (arith, cut, length-drop written x)

      at_end : (e : End Segment ℕ) (b : Bool)
          → further written ((refuse_if b EINVAL >> Ok (try_write s e x written)) >>= (λ t. transfer_told (Writing fd x written) t t.progress))
          ≡ (b || write_goes_on e.pipe.queue (readers itself s e.description.pipe) (nat_le (length x) PIPE_BUF) (length (drop written x)))
      at_end e true = refl
      at_end e false =
          write-told fd x written (try_write s e x written) here (try_write s e x written).progress
          ∙ write-further e.pipe.queue (readers itself s e.description.pipe) (nat_le (length x) PIPE_BUF) x (drop written x) written rest

      by_end : (r : Result (End Segment ℕ) Errno) → further written ((r >>= (λ e. refuse_if (nat_lt MAX_WRITE (length x)) EINVAL >> Ok (try_write s e x written))) >>= (λ t. transfer_told (Writing fd x written) t t.progress))
          ≡ or_is_over (λ e. nat_lt MAX_WRITE (length x) || write_goes_on e.pipe.queue (readers itself s e.description.pipe) (nat_le (length x) PIPE_BUF) (length (drop written x))) r
      by_end (Ok e) = at_end e (nat_lt MAX_WRITE (length x))
      by_end (Err err) = refl

-- who lives is found as who lives
living_is : (s : State Segment ℕ) (pid : ℕ) (p : Process ℕ) → process s pid ≡ Some p → living s pid ≡ Ok p
living_is s pid p here = ap (or_refuse ESRCH) here

-- Who waits can go on where the call can
pub can_go_on-is : (c : Limits) (s : State Segment ℕ) (pid : ℕ) (p : Process ℕ) (call : Call ℕ)
    → process s pid ≡ Some p → p.parked ≡ Some call → IsCut call → can_go_on c s pid ≡ goes_on s p call
can_go_on-is c s pid p call here waits cut =
    let parks : call_of s pid ≡ Some call = ap (option_and_then (λ (q : Process ℕ). q.parked)) here ∙ waits in
    let tries : (living s pid >>= (λ q. resume s pid q)) ≡ Ok (again s pid (attempt s pid p call)) =
    ap (λ r. r >>= (λ q. resume s pid q)) (living_is s pid p here) ∙ ap (λ o. or_refuse EINVAL o >>= (λ x. Ok (again s pid (attempt s pid p x)))) waits in
    ap (λ o. is_some o && not (is_parked (stepped (living s pid >>= (λ q. resume s pid q))).reply && nat_eq (written_in (call_of (stepped (living s pid >>= (λ q. resume s pid q))).state pid)) (written_in o))) parks
    ∙ ap (λ r. not (is_parked (stepped r).reply && nat_eq (written_in (call_of (stepped r).state pid)) (written_of call))) tries
    ∙ attempt-further s pid p here call cut
  where
    stepped : Result (Outcome Segment ℕ) Errno → Outcome Segment ℕ
    stepped r = swept (settle s r)

-- and nobody else can
pub waits_in_none : (c : Limits) (s : State Segment ℕ) (pid : ℕ) → call_of s pid ≡ None → can_go_on c s pid ≡ false
waits_in_none c s pid none = ap (λ o. is_some o && came_further s pid (step_of c s (Resume pid))) none
