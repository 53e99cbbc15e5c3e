-- What a transfer that is tried moves: the bytes of each pipe before and after.

use Rattle.std.proofs.Common.{◌≡◌, ℕ, Bool, true, false, ◌||◌, List, [], ◌++◌, length, take, drop, Option, Some, None, Ok, Err, refl, sym, ap, ◌∙◌, subst, arith, nat_eq, nat_lt, nat_le, if◌then◌else◌, append-nil}
use Rattle.std.proofs.lemmas.Bool.{eqb-true, eqb-false}
use Rattle.std.specs.Prelude.{Result}
use Rattle.std.specs.Option.{option_map}
use Rattle.pf_machine.specs.Refusals.{◌>>=◌, ◌>>◌, refuse_if, or_refuse}
use Rattle.pf_machine.specs.Queue.{Segment, bytes_of, taken}
use Rattle.pf_machine.specs.Progress.{moved, read_now, write_now, cross_now}
use Rattle.pf_base.specs.declared.progress.Crossing.{Crossing}
use Rattle.pf_base.specs.declared.progress.Crossing.TheVariants.{Tee, Splice}
use Rattle.pf_machine.specs.Numbered.{at, change_at}
use Rattle.pf_machine.proofs.NumberedLaws.{at-put_other}
use Rattle.pf_machine.specs.State.{itself, State, Process, End, Outcome, settle, end_at, holding, reading_end, writing_end, with_queue}
use Rattle.pf_machine.specs.Calls.{Transfer, Reading, Writing, Bringing, Call, Opening, Moving, written_of}
use Rattle.pf_machine.specs.Transfers.{Ends, two_ends, try_read, try_write, try_cross, Tried, tried}
use Rattle.pf_machine.specs.Counts.{readers, writers}
use Rattle.pf_machine.specs.Attempts.{Attempt, Finished, Waits, transfer_told, given, other_opens, open_told, attempt, first, again, nonblocking, transfer, resume}
use Rattle.pf_laws.specs.Streams.{if_at, put_in, taken_out, tried_call}
use Rattle.pf_base.specs.declared.TheConstants.{PIPE_BUF, MAX_WRITE}
use Rattle.pf_base.specs.declared.errno.Errno.{Errno}
use Rattle.pf_base.specs.declared.errno.Errno.TheVariants.{EBADF, EINVAL, EAGAIN}
use Rattle.pf_base.specs.declared.step.Reply.TheVariants.{Num}
use Rattle.pf_laws.proofs.QueueTransfers.{read_now-bytes, write_now-bytes, cross_now-sink, cross_now-teed, cross_now-spliced}
use Rattle.pf_machine.proofs.AttemptLaws.{IsTold, told-is}
use Rattle.pf_machine.proofs.HoldsLaws.{Holds, goes, passes, unless}
use Rattle.pf_laws.proofs.PipeLaws.{Stands, reading_end-stands, writing_end-stands, bytes_at, Keeps, keeps-same, keeps-trans, keeps-change, goes_out, goes_in, bytes_at-kept}

-- What was tried

pub record Moves (s : State Segment ℕ) (t : Tried) : Type 0 where
  pub each : (p : ℕ) → if_at p t.from t.bytes ++ bytes_at t.state.pipes p ≡ bytes_at s.pipes p ++ if_at p t.into t.bytes
  pub none : moved t.progress ≡ 0 → t.bytes ≡ []
  pub keeps : Keeps s.pipes t.state.pipes

try_read-moves : (s : State Segment ℕ) (e : End Segment ℕ) (n : ℕ) → Stands s e → Moves s (try_read s e n)
try_read-moves s e n stands =
    let r = read_now e.pipe.queue (writers itself s e.description.pipe) n in
    record {
      each = λ p. goes_out s.pipes e.description.pipe e.pipe r.queue (taken e.pipe.queue (moved r.progress)) stands (read_now-bytes e.pipe.queue (writers itself s e.description.pipe) n) p ∙ sym (append-nil (bytes_at s.pipes p));
      none = λ z. ap (λ m. taken e.pipe.queue m) z;
      keeps = keeps-change (holding r.queue) s.pipes e.description.pipe;
    }

try_write-moves : (s : State Segment ℕ) (e : End Segment ℕ) (x : List ℕ) (written : ℕ) → Stands s e → Moves s (try_write s e x written)
try_write-moves s e x written stands =
    let whole = nat_le (length x) PIPE_BUF in
    let r = write_now e.pipe.queue (readers itself s e.description.pipe) whole (drop written x) in
    record {
      each = goes_in s.pipes e.description.pipe e.pipe r.queue (take (moved r.progress) (drop written x)) stands (write_now-bytes e.pipe.queue (readers itself s e.description.pipe) whole (drop written x));
      none = λ z. ap (λ m. take m (drop written x)) z;
      keeps = keeps-change (holding r.queue) s.pipes e.description.pipe;
    }

try_tee-moves : (s : State Segment ℕ) (i o : End Segment ℕ) (n : ℕ) → Stands s i → Stands s o → nat_eq i.description.pipe o.description.pipe ≡ false → Moves s (try_cross Tee s (record { source = i; sink = o }) n)
try_tee-moves s i o n si so apart =
    let w = writers itself s i.description.pipe in
    let k = readers itself s o.description.pipe in
    let r = cross_now Tee i.pipe.queue o.pipe.queue w k n in
    let between = change_at (holding r.sink) s.pipes o.description.pipe in
    let still : at between i.description.pipe ≡ Some i.pipe =
    at-put_other s.pipes o.description.pipe i.description.pipe (option_map (holding r.sink) (at s.pipes o.description.pipe)) (eqb-false i.description.pipe o.description.pipe apart) ∙ si in
    record {
      each = λ p.
          bytes_at-kept (holding r.source) between i.description.pipe (λ x h. let both : i.pipe ≡ x = cc in ap bytes_of (cross_now-teed i.pipe.queue o.pipe.queue w k n) ∙ ap (λ (y : Rattle.pf_machine.specs.State.Pipe Segment). bytes_of y.queue) both) p
          ∙ goes_in s.pipes o.description.pipe o.pipe r.sink (taken i.pipe.queue (moved r.progress)) so (cross_now-sink Tee i.pipe.queue o.pipe.queue w k n) p;
      none = λ z. ap (λ m. taken i.pipe.queue m) z;
      keeps = keeps-trans (keeps-change (holding r.sink) s.pipes o.description.pipe) (keeps-change (holding r.source) between i.description.pipe);
    }

try_splice-moves : (s : State Segment ℕ) (i o : End Segment ℕ) (n : ℕ) → Stands s i → Stands s o → nat_eq i.description.pipe o.description.pipe ≡ false → Moves s (try_cross Splice s (record { source = i; sink = o }) n)
try_splice-moves s i o n si so apart =
    let w = writers itself s i.description.pipe in
    let k = readers itself s o.description.pipe in
    let r = cross_now Splice i.pipe.queue o.pipe.queue w k n in
    let between = change_at (holding r.sink) s.pipes o.description.pipe in
    let still : at between i.description.pipe ≡ Some i.pipe =
    at-put_other s.pipes o.description.pipe i.description.pipe (option_map (holding r.sink) (at s.pipes o.description.pipe)) (eqb-false i.description.pipe o.description.pipe apart) ∙ si in
    record {
      each = λ p.
          goes_out between i.description.pipe i.pipe r.source (taken i.pipe.queue (moved r.progress)) still (cross_now-spliced i.pipe.queue o.pipe.queue w k n) p
          ∙ goes_in s.pipes o.description.pipe o.pipe r.sink (taken i.pipe.queue (moved r.progress)) so (cross_now-sink Splice i.pipe.queue o.pipe.queue w k n) p;
      none = λ z. ap (λ m. taken i.pipe.queue m) z;
      keeps = keeps-trans (keeps-change (holding r.sink) s.pipes o.description.pipe) (keeps-change (holding r.source) between i.description.pipe);
    }

try_cross-moves : (c : Crossing) (s : State Segment ℕ) (i o : End Segment ℕ) (n : ℕ) → Stands s i → Stands s o → nat_eq i.description.pipe o.description.pipe ≡ false → Moves s (try_cross c s (record { source = i; sink = o }) n)
try_cross-moves Tee = try_tee-moves
try_cross-moves Splice = try_splice-moves

-- two ends stand, of two pipes
pub record Apart (s : State Segment ℕ) (e : Ends) : Type 0 where
  pub source : Stands s e.source
  pub sink : Stands s e.sink
  pub apart : nat_eq e.source.description.pipe e.sink.description.pipe ≡ false

two_ends-apart : (s : State Segment ℕ) (p : Process ℕ) (source sink : ℕ) → Holds (Apart s) (two_ends s p source sink)
two_ends-apart s p source sink =
    goes (Stands s) (Apart s) (reading_end itself s p source) (λ i. writing_end itself s p sink >>= (λ o. refuse_if (nat_eq i.description.pipe o.description.pipe) EINVAL >> Ok (record { source = i; sink = o }))) (reading_end-stands s p source) (λ i h.
    goes (Stands s) (Apart s) (writing_end itself s p sink) (λ o. refuse_if (nat_eq i.description.pipe o.description.pipe) EINVAL >> Ok (record { source = i; sink = o })) (writing_end-stands s p sink) (λ o k.
    unless (Apart s) (nat_eq i.description.pipe o.description.pipe) EINVAL (Ok (record { source = i; sink = o })) (λ apart. record { source = h; sink = k; apart = apart })))

pub tried-moves : (s : State Segment ℕ) (p : Process ℕ) (transfer : Transfer) → Holds (Moves s) (tried s p transfer)
tried-moves s p (Reading fd n) = goes (Stands s) (Moves s) (reading_end itself s p fd) (λ e. Ok (try_read s e n)) (reading_end-stands s p fd) (λ e h. try_read-moves s e n h)
tried-moves s p (Writing fd x written) =
    goes (Stands s) (Moves s) (writing_end itself s p fd) (λ e. refuse_if (nat_lt MAX_WRITE (length x)) EINVAL >> Ok (try_write s e x written)) (writing_end-stands s p fd)
    (λ e h. passes (Moves s) (refuse_if (nat_lt MAX_WRITE (length x)) EINVAL) (Ok (try_write s e x written)) (try_write-moves s e x written h))
tried-moves s p (Bringing c source sink n) =
    goes (Apart s) (Moves s) (two_ends s p source sink) (λ e. Ok (try_cross c s e n)) (two_ends-apart s p source sink) (λ e h. try_cross-moves c s e.source e.sink n h.source h.sink h.apart)

-- What it is told

-- an attempt leaves the pipes as the transfer did; where nothing is done so far, nothing has moved
abbrev pub Tells : Tried → Attempt Segment ℕ → Type 0
Tells t (Finished s r) = s.pipes ≡ t.state.pipes
Tells t (Waits s call) = (s.pipes ≡ t.state.pipes) × (written_of call ≡ 0 → t.bytes ≡ [])

-- one that is refused has moved nothing
abbrev pub Fair : Tried → Result (Attempt Segment ℕ) Errno → Type 0
Fair t (Ok a) = Tells t a
Fair t (Err e) = t.bytes ≡ []

pub transfer_told-fair : (s : State Segment ℕ) (call : Transfer) (t : Tried) → Moves s t
    → Fair t (transfer_told call t t.progress)
transfer_told-fair s call t m = by_told (transfer_told call t t.progress) (told-is call t t.progress)
  where
    by_told : (r : Result (Attempt Segment ℕ) Errno) → IsTold call t (moved t.progress) r → Fair t r
    by_told (Ok (Finished u reply)) f = ap (λ (v : State Segment ℕ). v.pipes) f.state
    by_told (Ok (Waits u next)) w = (
      ap (λ (v : State Segment ℕ). v.pipes) w.state,
      λ z. m.none (omega (arith, w.count, ap (λ (c : Call ℕ). written_of c) w.is, z)),
    )
    by_told (Err e) x = m.none (omega (arith, x.none))

-- What a step does by it

-- after an outcome each pipe has what it had, but for what was moved
pub record Flows (s : State Segment ℕ) (r : Result Tried Errno) (o : Outcome Segment ℕ) : Type 0 where
  pub each : (p : ℕ) → taken_out p r ++ bytes_at o.state.pipes p ≡ bytes_at s.pipes p ++ put_in p r
  pub keeps : Keeps s.pipes o.state.pipes

-- nothing moved
pub flows-none : (s : State Segment ℕ) (e : Errno) (o : Outcome Segment ℕ) → ((p : ℕ) → bytes_at o.state.pipes p ≡ bytes_at s.pipes p) → Keeps s.pipes o.state.pipes → Flows s (Err e) o
flows-none s e o h k = record { each = λ p. h p ∙ sym (append-nil (bytes_at s.pipes p)); keeps = k }

-- the pipes are as the transfer left them
flows-moved : (s : State Segment ℕ) (t : Tried) (o : Outcome Segment ℕ) → Moves s t → o.state.pipes ≡ t.state.pipes → Flows s (Ok t) o
flows-moved s t o m e = record {
  each = λ p. ap (λ ps. if_at p t.from t.bytes ++ bytes_at ps p) e ∙ m.each p;
  keeps = subst (λ ps. Keeps s.pipes ps) (sym e) m.keeps;
}

if_at-none : (p : ℕ) (o : Option ℕ) → if_at p o [] ≡ []
if_at-none p None = refl
if_at-none p (Some q) = by_test (nat_eq q p)
  where
    by_test : (b : Bool) → ◌≡◌ {A = List ℕ} (if b then [] else []) []
    by_test true = refl
    by_test false = refl

-- it is refused, having moved nothing
flows-refused : (s : State Segment ℕ) (t : Tried) (o : Outcome Segment ℕ) → t.bytes ≡ [] → o.state.pipes ≡ s.pipes → Flows s (Ok t) o
flows-refused s t o none e = record {
  each = λ p. ap (λ x. if_at p t.from x ++ bytes_at o.state.pipes p) none ∙ ap (λ x. x ++ bytes_at o.state.pipes p) (if_at-none p t.from) ∙ ap (λ ps. bytes_at ps p) e
      ∙ sym (append-nil (bytes_at s.pipes p)) ∙ ap (λ x. bytes_at s.pipes p ++ x) (sym (if_at-none p t.into)) ∙ ap (λ x. bytes_at s.pipes p ++ if_at p t.into x) (sym none);
  keeps = subst (λ ps. Keeps s.pipes ps) (sym e) (keeps-same s.pipes);
}

first-flows : (s : State Segment ℕ) (pid : ℕ) (b : Bool) (t : Tried) (a : Attempt Segment ℕ) → Moves s t → Tells t a → Flows s (Ok t) (settle s (first pid b a))
first-flows s pid b t (Finished u r) m h = flows-moved s t _ m h
first-flows s pid false t (Waits u call) m h = flows-moved s t _ m h.0
first-flows s pid true t (Waits u call) m h = by_test (nat_eq (written_of call) 0) refl
  where
    by_test : (b : Bool) → nat_eq (written_of call) 0 ≡ b → Flows s (Ok t) (settle s (if b then Err EAGAIN else Ok (Rattle.pf_machine.specs.State.told u (Rattle.pf_base.specs.declared.step.Reply.TheVariants.Num (written_of call)))))
    by_test true e = flows-refused s t _ (h.1 (eqb-true (written_of call) 0 e)) refl
    by_test false e = flows-moved s t _ m h.0

again-flows : (s : State Segment ℕ) (pid : ℕ) (t : Tried) (r : Result (Attempt Segment ℕ) Errno) → Moves s t → Fair t r → Flows s (Ok t) (again s pid r)
again-flows s pid t (Ok (Finished u reply)) m h = flows-moved s t _ m h
again-flows s pid t (Ok (Waits u call)) m h = flows-moved s t _ m h.0
again-flows s pid t (Err e) m h = flows-refused s t _ h refl

pub transfer-flows : (s : State Segment ℕ) (pid : ℕ) (p : Process ℕ) (flag : Bool) (call : Transfer) → Flows s (tried s p call) (settle s (transfer s pid p flag call))
transfer-flows s pid p flag call = by_tried (tried s p call) (tried-moves s p call)
  where
    by_told : (t : Tried) (r : Result (Attempt Segment ℕ) Errno) → Moves s t → Fair t r → Flows s (Ok t) (settle s (r >>= first pid (flag || nonblocking s p call)))
    by_told t (Ok a) m h = first-flows s pid (flag || nonblocking s p call) t a m h
    by_told t (Err e) m h = flows-refused s t _ h refl

    by_tried : (r : Result Tried Errno) → Holds (Moves s) r → Flows s r (settle s ((r >>= (λ t. transfer_told call t t.progress)) >>= first pid (flag || nonblocking s p call)))
    by_tried (Ok t) m = by_told t (transfer_told call t t.progress) m (transfer_told-fair s call t m)
    by_tried (Err x) m = flows-none s x _ (λ q. refl) (keeps-same s.pipes)

pub resume-flows : (s : State Segment ℕ) (pid : ℕ) (p : Process ℕ) → Flows s (or_refuse EINVAL p.parked >>= tried_call s p) (settle s (resume s pid p))
resume-flows s pid p = by_parked p.parked
  where
    by_tried : (call : Transfer) (r : Result Tried Errno) → Holds (Moves s) r → Flows s r (again s pid (r >>= (λ t. transfer_told call t t.progress)))
    by_tried call (Ok t) m = again-flows s pid t (transfer_told call t t.progress) m (transfer_told-fair s call t m)
    by_tried call (Err x) m = flows-none s x _ (λ q. refl) (keeps-same s.pipes)

    by_open : (n kept : ℕ) (r : Result (End Segment ℕ) Errno) → Flows s (Err EINVAL) (again s pid (r >>= (λ e. Ok (open_told s pid p n kept e))))
    by_open n kept (Err x) = flows-none s EINVAL _ (λ q. refl) (keeps-same s.pipes)
    by_open n kept (Ok e) = by_test (nat_lt kept (other_opens e))
      where
        by_test : (b : Bool) → Flows s (Err EINVAL) (again s pid (Ok (if b then given s pid p n else Waits s (Opening n kept))))
        by_test true = flows-none s EINVAL _ (λ q. refl) (keeps-same s.pipes)
        by_test false = flows-none s EINVAL _ (λ q. refl) (keeps-same s.pipes)

    by_parked : (o : Option (Call ℕ)) → Flows s (or_refuse EINVAL o >>= tried_call s p) (settle s (or_refuse EINVAL o >>= (λ call. Ok (again s pid (attempt s pid p call)))))
    by_parked None = flows-none s EINVAL _ (λ q. refl) (keeps-same s.pipes)
    by_parked (Some (Opening n kept)) = by_open n kept (or_refuse EBADF (end_at itself s n))
    by_parked (Some (Moving call)) = by_tried call (tried s p call) (tried-moves s p call)
