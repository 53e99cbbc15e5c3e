-- What calls that may wait come to, in one table: what holds of the changes that transfers, a Resume and opens make
-- holds of what they leave.

use Rattle.std.proofs.Common.{◌≡◌, ◌≢◌, ◌⊎◌, inl, inr, ℕ, ◌+◌, Bool, true, false, not, ◌&&◌, ◌||◌, List, [], ◌∷◌, ◌++◌, length, Option, Some, None, Ok, Err, refl, sym, ap, subst, arith, nat_eq, nat_lt, nat_le, if◌then◌else◌}
use Rattle.std.proofs.lemmas.Bool.{eqb-true, eqb-false}
use Rattle.std.specs.Prelude.{Result, ⊤}
use Rattle.pf_machine.specs.Refusals.{◌>>=◌, refuse_if, or_refuse}
use Rattle.pf_base.specs.Capacities.{told_as}
use Rattle.pf_base.specs.Limits.{Limits}
use Rattle.pf_base.specs.Permissions.{allows}
use Rattle.pf_machine.specs.FileMap.{Files, Path, find, is_directory}
use Rattle.pf_machine.specs.Paths.{words_of, reach, target_of, target}
use Rattle.pf_machine.specs.Queue.{Segment, Queue, empty}
use Rattle.pf_machine.specs.Progress.{moved}
use Rattle.pf_machine.specs.Numbered.{at, first_free}
use Rattle.pf_machine.specs.Calls.{Transfer, Reading, Writing, Bringing, Call, Opening, Moving, went_in, written_of}
use Rattle.pf_machine.specs.State.{itself, State, Process, Description, End, Outcome, end_at, reading_end, writing_end, change_process, change_pipe, with_process, with_queue, with_descriptor, waiting, told}
use Rattle.pf_machine.specs.Counts.{readers, writers}
use Rattle.pf_machine.specs.Pipes.{new_pipe, capacity_for, is_spent}
use Rattle.pf_machine.specs.Transfers.{Tried, tried, try_read, try_write, two_ends, try_cross}
use Rattle.pf_machine.specs.Attempts.{Attempt, Finished, Waits, transfer_told, given, other_opens, open_told, attempt, first, nonblocking, parked, transfer, again, resume}
use Rattle.pf_machine.specs.Opens.{Access, is_waiting, openable, fifo_pipe, fifo_readers, Found, pipe_of, counted, kept_by, open_fifo, open_path}
use Rattle.pf_base.specs.declared.TheConstants.{MAX_WRITE, MAX_DESCRIPTORS}
use Rattle.pf_base.specs.declared.cred.Cred.{Cred}
use Rattle.pf_base.specs.declared.errno.Errno.{Errno}
use Rattle.pf_base.specs.declared.errno.Errno.TheVariants.{ENXIO, EBADF, EAGAIN, ENOMEM, EINVAL, ENFILE, EMFILE, EPIPE, ENOENT, EACCES, EISDIR, ENOTDIR}
use Rattle.pf_base.specs.declared.meta.File.{File}
use Rattle.pf_base.specs.declared.permissions.Want.TheVariants.{Read, Write}
use Rattle.pf_base.specs.declared.progress.Progress.{Progress}
use Rattle.pf_base.specs.declared.progress.Progress.TheVariants.{Moved, EndOfFile, NoReader, WouldBlock}
use Rattle.pf_base.specs.declared.step.Reply.{Reply}
use Rattle.pf_base.specs.declared.step.Reply.TheVariants.{Num, Bytes, Err as Refused}
use Rattle.pf_machine.proofs.HoldsLaws.{Holds, IsOk, goes, carries, passes, found}
use Rattle.pf_machine.proofs.StepLaws.{IsNoError}

-- a transfer of which so many bytes went in: of a write
abbrev pub with_written : ℕ → Transfer → Transfer
with_written n (Reading fd m) = Reading fd m
with_written n (Writing fd x written) = Writing fd x n
with_written n (Bringing c source sink m) = Bringing c source sink m

-- What a transfer is told

-- of so many bytes: these, of a read, or that there are none; of others how many went in or were brought
abbrev pub Says : Transfer → List ℕ → ℕ → Reply → Type 0
Says (Reading fd n) x k reply = (b : Bool) × (reply ≡ Bytes (if b then x else []))
Says call x k reply = reply ≡ Num (went_in call + k)

-- a write that waits after some bytes has more
abbrev pub HasMore : Transfer → ℕ → Type 0
HasMore (Writing fd x written) k = (k ≡ 0) ⊎ (written + k ≢ length x)
HasMore _ k = ⊤

module _ (call : Transfer) (t : Tried) (k : ℕ) where
  pub record Finishes (u : State Segment ℕ) (reply : Reply) : Type 0 where
    pub state : u ≡ t.state
    pub says : Says call t.bytes k reply

  pub record Stands (u : State Segment ℕ) (next : Call ℕ) : Type 0 where
    pub state : u ≡ t.state
    pub written : ℕ
    pub is : next ≡ Moving (with_written written call)
    pub count : went_in (with_written written call) ≡ went_in call + k
    pub more : HasMore call k

  pub record Refuses (e : Errno) : Type 0 where
    pub is : e ≡ EPIPE
    pub none : went_in call + k ≡ 0

  abbrev pub IsTold : Result (Attempt Segment ℕ) Errno → Type 0
  IsTold (Ok (Finished u reply)) = Finishes u reply
  IsTold (Ok (Waits u next)) = Stands u next
  IsTold (Err e) = Refuses e

-- of how far it came
pub told-is : (call : Transfer) (t : Tried) (r : Progress) → IsTold call t (moved r) (transfer_told call t r)
told-is (Reading fd n) t (Moved k) = record { state = refl; says = (true, refl) }
told-is (Reading fd n) t EndOfFile = record { state = refl; says = (false, refl) }
told-is (Reading fd n) t NoReader = record { state = refl; says = (false, refl) }
told-is (Reading fd n) t WouldBlock = record { state = refl; written = 0; is = refl; count = omega arith; more = tt }
told-is (Writing fd x written) t (Moved k) = by_rest (nat_eq (written + k) (length x)) refl
  where
    by_rest : (b : Bool) → nat_eq (written + k) (length x) ≡ b
        → IsTold (Writing fd x written) t k (if b then Ok (Finished t.state (Num (length x)))
        else Ok (Waits t.state (Moving (Writing fd x (written + k)))))
    by_rest true e = record { state = refl; says = ap Num (sym (eqb-true (written + k) (length x) e)) }
    by_rest false e = record {
      state = refl;
      written = written + k;
      is = refl;
      count = refl;
      more = inr (eqb-false (written + k) (length x) e);
    }
told-is (Writing fd x written) t NoReader = by_none (nat_eq written 0) refl
  where
    by_none : (b : Bool) → nat_eq written 0 ≡ b
        → IsTold (Writing fd x written) t 0 (if b then Err EPIPE else Ok (Finished t.state (Num written)))
    by_none true e = record { is = refl; none = omega (arith, eqb-true written 0 e) }
    by_none false e = record { state = refl; says = ap Num (omega arith) }
told-is (Writing fd x written) t EndOfFile =
    record { state = refl; written = written; is = refl; count = omega arith; more = inl refl }
told-is (Writing fd x written) t WouldBlock =
    record { state = refl; written = written; is = refl; count = omega arith; more = inl refl }
told-is (Bringing c source sink n) t (Moved k) = record { state = refl; says = ap Num (omega arith) }
told-is (Bringing c source sink n) t EndOfFile = record { state = refl; says = ap Num (omega arith) }
told-is (Bringing c source sink n) t NoReader = record { is = refl; none = omega arith }
told-is (Bringing c source sink n) t WouldBlock =
    record { state = refl; written = 0; is = refl; count = omega arith; more = tt }

says-fine : (call : Transfer) (x : List ℕ) (k : ℕ) (reply : Reply) → Says call x k reply → IsNoError reply
says-fine (Reading fd n) x k reply s = subst IsNoError (sym s.1) tt
says-fine (Writing fd y written) x k reply s = subst IsNoError (sym s) tt
says-fine (Bringing c source sink n) x k reply s = subst IsNoError (sym s) tt

-- Transfers

-- of what a transfer leaves of a state: other queues
module _ (s : State Segment ℕ) (P : State Segment ℕ → Type 0) (start : P s)
    (held : (t : State Segment ℕ) (n : ℕ) (q : Queue) → P t → P (with_queue t n q)) (p : Process ℕ) where
  abbrev Leaves : Tried → Type 0
  Leaves t = P t.state

  tried-leaves : (call : Transfer) → Holds Leaves (tried s p call)
  tried-leaves (Reading fd n) =
      carries Leaves (reading_end itself s p fd) (λ e. Ok (try_read s e n)) (λ e. held s e.description.pipe _ start)
  tried-leaves (Writing fd x written) =
      carries Leaves (writing_end itself s p fd) _ (λ e. passes Leaves (refuse_if (nat_lt MAX_WRITE (length x)) EINVAL)
      (Ok (try_write s e x written)) (held s e.description.pipe _ start))
  tried-leaves (Bringing c source sink n) =
      carries Leaves (two_ends s p source sink) (λ e. Ok (try_cross c s e n))
      (λ e. held _ e.source.description.pipe _ (held s e.sink.description.pipe _ start))

  pub record WaitsOn (call : Transfer) (t : State Segment ℕ) (next : Call ℕ) : Type 0 where
    pub left : P t
    pub may : IsOk (tried s p call)
    pub written : ℕ
    pub is : next ≡ Moving (with_written written call)

  -- it is finished with no error, or it waits on, and may be tried
  abbrev pub Comes : Transfer → Attempt Segment ℕ → Type 0
  Comes call (Finished t reply) = P t × IsNoError reply
  Comes call (Waits t next) = WaitsOn call t next

  -- one refusal alone comes of what may be tried
  abbrev pub Told : Transfer → Result (Attempt Segment ℕ) Errno → Type 0
  Told call (Ok a) = Comes call a
  Told call (Err e) = IsOk (tried s p call) → e ≡ EPIPE

  told-comes : (call : Transfer) (t : Tried) → P t.state → IsOk (tried s p call)
      → Told call (transfer_told call t t.progress)
  told-comes call t h ok = by_told (transfer_told call t t.progress) (told-is call t t.progress)
    where
      by_told : (r : Result (Attempt Segment ℕ) Errno) → IsTold call t (moved t.progress) r → Told call r
      by_told (Ok (Finished u reply)) f = (subst P (sym f.state) h, says-fine call t.bytes _ reply f.says)
      by_told (Ok (Waits u next)) w =
          record { left = subst P (sym w.state) h; may = ok; written = w.written; is = w.is }
      by_told (Err e) x = λ may. x.is

  pub attempt-told : (pid : ℕ) (call : Transfer) → Told call (attempt s pid p (Moving call))
  attempt-told pid call = by_tried (tried s p call) (tried-leaves call) (λ ok. ok) (λ ok. ok)
    where
      by_tried : (r : Result Tried Errno) → Holds Leaves r → (IsOk r → IsOk (tried s p call))
          → (IsOk (tried s p call) → IsOk r) → Told call (r >>= (λ t. transfer_told call t t.progress))
      by_tried (Ok t) h is may = told-comes call t h (is tt)
      by_tried (Err e) h is may = λ ok. absurd (may ok)

  module _ (Q : Outcome Segment ℕ → Type 0) (pid : ℕ) where
    -- it parks
    abbrev Parks : Type 0
    Parks = (t : State Segment ℕ) (call : Transfer) → P t → IsOk (tried s p call) → (n : ℕ)
        → Q (parked t pid (Moving (with_written n call)))

    parks-on : Parks → (t : State Segment ℕ) (call : Transfer) (next : Call ℕ) → WaitsOn call t next
        → Q (parked t pid next)
    parks-on parks t call next h = subst (λ c. Q (parked t pid c)) (sym h.is) (parks t call h.left h.may h.written)

    pub transfer-comes : ((t : State Segment ℕ) (r : Reply) → P t → IsNoError r → Q (told t r)) → Parks
        → (flag : Bool) (call : Transfer) → Holds Q (transfer s pid p flag call)
    transfer-comes ends parks flag call =
        by_attempt (attempt s pid p (Moving call)) (attempt-told pid call) (flag || nonblocking s p call)
      where
        by_none : (t : State Segment ℕ) (n : ℕ) (b : Bool) → P t
            → Holds Q (if b then Err EAGAIN else Ok (told t (Num n)))
        by_none t n true h = tt
        by_none t n false h = ends t (Num n) h tt

        by_attempt : (r : Result (Attempt Segment ℕ) Errno) → Told call r → (b : Bool) → Holds Q (r >>= first pid b)
        by_attempt (Ok (Finished t reply)) h b = ends t reply h.0 h.1
        by_attempt (Ok (Waits t next)) h false = parks-on parks t call next h
        by_attempt (Ok (Waits t next)) h true = by_none t (written_of next) (nat_eq (written_of next) 0) h.left
        by_attempt (Err e) h b = tt

    -- tried again it is over, also that it is refused, or it waits on; an open has its descriptor, or waits on
    pub resume-comes : ((t : State Segment ℕ) (r : Reply) → P t → Q (told (change_process (waiting None) t pid) r))
        → Parks
        → ((n kept : ℕ) → p.parked ≡ Some (Opening n kept) → Q (told (change_process (waiting None)
        (with_process s pid (with_descriptor (first_free p.descriptors) n p)) pid) (Num (first_free p.descriptors))))
        → ((n kept : ℕ) → p.parked ≡ Some (Opening n kept) → Q (parked s pid (Opening n kept)))
        → Holds Q (resume s pid p)
    resume-comes ends parks has on = found Q EINVAL p.parked (λ call. Ok (again s pid (attempt s pid p call))) by_call
      where
        by_attempt : (call : Transfer) (r : Result (Attempt Segment ℕ) Errno) → Told call r → Q (again s pid r)
        by_attempt call (Ok (Finished t reply)) h = ends t reply h.0
        by_attempt call (Ok (Waits t next)) h = parks-on parks t call next h
        by_attempt call (Err e) h = ends s (Refused e) start

        by_came : (n kept : ℕ) → p.parked ≡ Some (Opening n kept) → (b : Bool)
            → Q (again s pid (Ok (if b then given s pid p n else Waits s (Opening n kept))))
        by_came n kept w true = has n kept w
        by_came n kept w false = on n kept w

        by_end : (n kept : ℕ) → p.parked ≡ Some (Opening n kept) → (r : Result (End Segment ℕ) Errno)
            → Q (again s pid (r >>= (λ e. Ok (open_told s pid p n kept e))))
        by_end n kept w (Ok e) = by_came n kept w (nat_lt kept (other_opens e))
        by_end n kept w (Err e) = ends s (Refused e) start

        by_call : (call : Call ℕ) → p.parked ≡ Some call → Q (again s pid (attempt s pid p call))
        by_call (Opening n kept) w = by_end n kept w (or_refuse EBADF (end_at itself s n))
        by_call (Moving call) w = by_attempt call (attempt s pid p (Moving call)) (attempt-told pid call)

-- Opens

-- a file stands at some path
pub record There (files : Files) (f : File) : Type 0 where
  pub path : Path
  pub stands : find path files ≡ Some f

target-there : (files : Files) (c : Cred) (bs : List ℕ) → Holds (λ t. There files t.file) (target files c bs)
target-there files c bs =
    carries (λ t. There files t.file) (words_of bs) (λ words. target_of files c words) (λ words.
    carries (λ t. There files t.file) (reach files c [] words.names) _ (λ at.
    found (λ t. There files t.file) ENOENT (find at files) _ (λ f e.
    passes (λ t. There files t.file) (refuse_if (words.slash && not (is_directory f)) ENOTDIR) _
    (record { path = at; stands = e }))))

-- what may be opened is there
openable-there : (files : Files) (c : Cred) (path : List ℕ) (a : Access) → Holds (There files) (openable files c path a)
openable-there files c path a =
    passes (There files) (refuse_if (not a.reads && not a.writes) EINVAL) _
    (goes (λ t. There files t.file) (There files) (target files c path) _ (target-there files c path) (λ t h.
    passes (There files) (refuse_if (is_directory t.file) EISDIR) _ (passes (There files)
    (refuse_if (a.reads && not (allows c t.file.meta Read) || a.writes && not (allows c t.file.meta Write)) EACCES) _
    h)))

-- one more description of a pipe
abbrev pub end_made : Access → ℕ → Description ℕ
end_made a n = record { pipe = n; reads = a.reads; writes = a.writes; nonblocking = a.nonblock }

abbrev pub made : Access → Found Segment ℕ → State Segment ℕ
made a x =
    change_pipe (counted a)
    (record x.state { descriptions = x.state.descriptions ++ Some (end_made a x.pipe) ∷ [] }) x.pipe

-- of the FIFO's pipe, in the state that has it
module _ (s : State Segment ℕ) (Q : Outcome Segment ℕ → Type 0) (c : Limits) (pid : ℕ) (p : Process ℕ) (a : Access)
    (R : Found Segment ℕ → Type 0) where
  abbrev drawn : ℕ
  drawn = length s.descriptions

  -- it has its pipe, or gets it, and the open has its descriptor, or waits
  pub open-comes : ((n file : ℕ) → fifo_pipe s file ≡ Some n → R (record { state = s; pipe = n }))
      → ((f : File) → There s.files f → fifo_pipe s f.number ≡ None → (slots : ℕ) → R (record {
        state = record s { pipes = s.pipes ++ Some (new_pipe (empty slots) p.cred.uid (Some f.number)) ∷ [] };
        pipe = length s.pipes;
      }))
      → ((x : Found Segment ℕ) → R x → Q (told (with_process (made a x) pid
      (with_descriptor (first_free p.descriptors) drawn p)) (Num (first_free p.descriptors))))
      → ((x : Found Segment ℕ) → R x → (kept : ℕ) → Q (parked (made a x) pid (Opening drawn kept)))
      → (path : List ℕ) → Holds Q (open_path itself drawn itself c s pid p path a)
  open-comes old new has waits path =
      goes (There s.files) Q (openable s.files p.cred path a) (λ f. open_fifo itself drawn itself c s pid p a f.number)
      (openable-there s.files p.cred path a) (λ f there.
      passes Q (refuse_if (nat_le MAX_DESCRIPTORS (first_free p.descriptors)) EMFILE) _ (passes Q (refuse_if
      (a.writes && not a.reads && a.nonblock && nat_eq (fifo_readers itself s (fifo_pipe s f.number)) 0) ENXIO) _
      (passes Q (refuse_if (is_spent s.descriptions 1) ENFILE) _
      (goes R Q (pipe_of c s p f.number (fifo_pipe s f.number)) _ (by_pipe f there (fifo_pipe s f.number) refl)
      (λ x h. by_other x h (is_waiting a (readers itself x.state x.pipe) (writers itself x.state x.pipe)))))))
    where
      by_pipe : (f : File) → There s.files f → (o : Option ℕ) → fifo_pipe s f.number ≡ o
          → Holds R (pipe_of c s p f.number o)
      by_pipe f there (Some n) e = old n f.number e
      by_pipe f there None e =
          passes R (refuse_if (is_spent s.pipes 1) ENFILE) _
          (carries R (told_as ENOMEM (capacity_for c s p.cred)) _ (λ slots. new f there e slots))

      by_other : (x : Found Segment ℕ) → R x → (b : Bool) → Holds Q (first pid false (
          if b then Waits (made a x) (Opening drawn (kept_by a (at x.state.pipes x.pipe)))
          else given (made a x) pid p drawn
          ))
      by_other x h true = waits x h (kept_by a (at x.state.pipes x.pipe))
      by_other x h false = has x h
