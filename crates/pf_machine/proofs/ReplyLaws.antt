-- What the machine's replies hand out, kind by kind: nothing but the bytes of a read and the names of a list.

use Rattle.std.proofs.Common.{◌≡◌, ℕ, ◌≤◌, Bool, true, false, ◌||◌, List, length, Option, Some, None, Result, Ok, Err, refl, ap, ◌∙◌, arith, nat_eq, nat_lt, if◌then◌else◌, length-take, subst, sym}
use Rattle.pf_base.specs.declared.step.Reply.{Reply}
use Rattle.std.specs.Prelude.{⊤, min}
use Rattle.std.specs.Option.{option_and_then}
use Rattle.pf_machine.specs.Refusals.{◌>>=◌, or_refuse}
use Rattle.pf_base.specs.Limits.{Limits}
use Rattle.pf_machine.specs.FileCalls as calls
use Rattle.pf_machine.specs.Queue.{Segment, Queue, bytes_of, after_take}
use Rattle.pf_machine.specs.Progress.{Passed, moved, read_now}
use Rattle.pf_machine.specs.Calls.{Transfer, Reading, Writing, Bringing, Call, Opening, Moving, written_of}
use Rattle.pf_machine.specs.State.{itself, State, Process, End, Outcome, process, living, ready, settle, told, end_at, reading_end}
use Rattle.pf_machine.specs.Counts.{writers}
use Rattle.pf_machine.specs.Files.{list}
use Rattle.pf_machine.specs.Transfers.{Tried, tried, try_read}
use Rattle.pf_machine.specs.Attempts.{Attempt, Finished, Waits, transfer_told, given, other_opens, open_told, attempt, first, again, nonblocking, transfer, resume}
use Rattle.pf_machine.specs.Opens.{Access, open_path}
use Rattle.pf_machine.specs.Machine.{call, call_of}
use Rattle.pf_base.specs.declared.errno.Errno.{Errno}
use Rattle.pf_base.specs.declared.errno.Errno.TheVariants.{EBADF, EAGAIN, EINVAL, ESRCH}
use Rattle.pf_base.specs.declared.progress.Crossing.TheVariants as crossings
use Rattle.pf_base.specs.declared.progress.Progress.TheVariants.{Moved, WouldBlock, EndOfFile}
use Rattle.pf_base.specs.declared.step.Reply.TheVariants.{Num}
use Rattle.pf_base.specs.declared.step.Step.{Step}
use Rattle.pf_base.specs.declared.step.Step.TheVariants.{Read, Write, Tee, Splice, List as Lists, Resume}
use Rattle.pf_machine.proofs.AttemptLaws.{Says, IsTold, told-is, open-comes}
use Rattle.pf_machine.proofs.StepLaws.{Still, step-keeps}
use Rattle.pf_machine.proofs.HoldsLaws.{Holds, goes, carries}
use Rattle.pf_machine.specs.Replies.{reply_length}

-- a read by its three tests
abbrev read_by : Queue → ℕ → Bool → Bool → Bool → Passed
read_by q n a b c =
    if a then record { progress = Moved 0; queue = q }
    else if b then record { progress = Moved (min n (length (bytes_of q))); queue = after_take q n }
    else if c then record { progress = EndOfFile; queue = q }
    else record { progress = WouldBlock; queue = q }

read_by-le : (q : Queue) (n : ℕ) (a b c : Bool) → moved (read_by q n a b c).progress ≤ min n (length (bytes_of q))
read_by-le q n true b c = omega arith
read_by-le q n false true c = omega arith
read_by-le q n false false true = omega arith
read_by-le q n false false false = omega arith

-- it takes no more than it asks for, and no more than there is
read_now-le : (q : Queue) (writers n : ℕ) → moved (read_now q writers n).progress ≤ min n (length (bytes_of q))
read_now-le q writers n = read_by-le q n (nat_eq n 0) (nat_lt 0 (length (bytes_of q))) (nat_eq writers 0)

pub read_bytes : (s : State Segment ℕ) (e : End Segment ℕ) (n : ℕ) → length (try_read s e n).bytes ≤ min n (length (bytes_of e.pipe.queue))
read_bytes s e n =
    let k = moved (read_now e.pipe.queue (writers itself s e.description.pipe) n).progress in
    omega (arith, length-take k (bytes_of e.pipe.queue), read_now-le e.pipe.queue (writers itself s e.description.pipe) n)

-- no reply hands out more than m bytes
module _ (s : State Segment ℕ) (m : ℕ) where
  abbrev pub Few : Outcome Segment ℕ → Type 0
  Few o = reply_length o.reply ≤ m

  nothing : 0 ≤ m
  nothing = omega arith

  -- Attempts

  abbrev Told : Attempt Segment ℕ → Type 0
  Told (Finished t reply) = reply_length reply ≤ m
  Told (Waits t call) = ⊤

  -- the bytes of a read are few
  abbrev Little : Transfer → Tried → Type 0
  Little (Reading fd n) t = length t.bytes ≤ m
  Little (Writing fd x written) t = ⊤
  Little (Bringing c source sink n) t = ⊤

  short : (call : Transfer) (t : Tried) (k : ℕ) (reply : Reply) → Little call t → Says call t.bytes k reply
      → reply_length reply ≤ m
  short (Reading fd n) t k reply l (true, e) = subst (λ y. reply_length y ≤ m) (sym e) l
  short (Reading fd n) t k reply l (false, e) = subst (λ y. reply_length y ≤ m) (sym e) nothing
  short (Writing fd x written) t k reply l e = subst (λ y. reply_length y ≤ m) (sym e) nothing
  short (Bringing c source sink n) t k reply l e = subst (λ y. reply_length y ≤ m) (sym e) nothing

  told-few : (call : Transfer) (t : Tried) → Little call t → Holds Told (transfer_told call t t.progress)
  told-few call t l = by_told (transfer_told call t t.progress) (told-is call t t.progress)
    where
      by_told : (r : Result (Attempt Segment ℕ) Errno) → IsTold call t (moved t.progress) r → Holds Told r
      by_told (Ok (Finished u reply)) f = short call t _ reply l f.says
      by_told (Ok (Waits u next)) w = tt
      by_told (Err e) x = tt

  attempt-few : (pid : ℕ) (p : Process ℕ) (call : Transfer) → Holds (Little call) (tried s p call) → Holds Told (attempt s pid p (Moving call))
  attempt-few pid p call h =
      goes (Little call) Told (tried s p call) (λ t. transfer_told call t t.progress) h (λ t l. told-few call t l)

  first-few : (pid : ℕ) (nonblock : Bool) (a : Attempt Segment ℕ) → Told a → Holds Few (first pid nonblock a)
  first-few pid nonblock (Finished t reply) h = h
  first-few pid false (Waits t call) h = nothing
  first-few pid true (Waits t call) h = by_none (nat_eq (written_of call) 0)
    where
      by_none : (b : Bool) → Holds Few (if b then Err EAGAIN else Ok (told t (Num (written_of call))))
      by_none true = tt
      by_none false = nothing

  transfer-few : (pid : ℕ) (p : Process ℕ) (flag : Bool) (call : Transfer) → Holds (Little call) (tried s p call) → Holds Few (transfer s pid p flag call)
  transfer-few pid p flag call h =
      goes Told Few (attempt s pid p (Moving call)) (first pid (flag || nonblocking s p call)) (attempt-few pid p call h) (λ a t. first-few pid (flag || nonblocking s p call) a t)

  any_tried : (r : Result Tried Errno) → Holds (λ t. ⊤) r
  any_tried (Ok t) = tt
  any_tried (Err e) = tt

  again-few : (pid : ℕ) (r : Result (Attempt Segment ℕ) Errno) → Holds Told r → Few (again s pid r)
  again-few pid (Ok (Finished t reply)) h = h
  again-few pid (Ok (Waits t call)) h = nothing
  again-few pid (Err e) h = nothing

  -- Opens

  told_again : (t u : State Segment ℕ) (pid : ℕ) (p : Process ℕ) (n : ℕ) (call : Call ℕ) (b : Bool) → Told (if b then given u pid p n else Waits t call)
  told_again t u pid p n call true = nothing
  told_again t u pid p n call false = tt

  open-few : (c : Limits) (pid : ℕ) (p : Process ℕ) (path : List ℕ) (a : Access)
      → Holds Few (open_path itself (length s.descriptions) itself c s pid p path a)
  open-few c pid p path a =
      open-comes s Few c pid p a (λ x. ⊤) (λ n file e. tt) (λ f there e slots. tt) (λ x h. nothing)
      (λ x h kept. nothing) path

  -- Calls that hand out nothing

  still : Still s Few
  still = record {
    spawned = λ cred. nothing;
    forked = λ pid p f. nothing;
    exited = λ pid p l. nothing;
    duped = λ pid p fd n f e. nothing;
    closed = λ pid p fd f. nothing;
    flagged = λ n on. nothing;
    piped = λ pid p nonblock f slots. nothing;
    sized = λ p fd e is pages. nothing;
    looked = λ r fine short. omega (arith, short);
    made = λ c kind path mode files e. nothing;
    filed = λ c files how. nothing;
    opened = λ c pid p path a f. open-few c pid p path a;
  }

  pub quiet : (c : Limits) (step : Step) → ((pid fd n : ℕ) → step ≡ Read pid fd n → ⊥) → ((pid : ℕ) (path : List ℕ) → step ≡ Lists pid path → ⊥) → ((pid : ℕ) → step ≡ Resume pid → ⊥)
      → Holds Few (call c s step)
  quiet c (Read pid fd n) r l a = absurd (r pid fd n refl)
  quiet c (Lists pid path) r l a = absurd (l pid path refl)
  quiet c (Resume pid) r l a = absurd (a pid refl)
  quiet c (Write pid fd x) r l a =
      step-keeps s Few still c (Write pid fd x) (λ p f. transfer-few pid p false (Writing fd x 0) (any_tried _))
  quiet c (Tee pid i o n flag) r l a = step-keeps s Few still c (Tee pid i o n flag)
      (λ p f. transfer-few pid p flag (Bringing crossings.Tee i o n) (any_tried _))
  quiet c (Splice pid i o n flag) r l a = step-keeps s Few still c (Splice pid i o n flag)
      (λ p f. transfer-few pid p flag (Bringing crossings.Splice i o n) (any_tried _))
  quiet c x r l a = step-keeps s Few still c x tt

  -- A read

  read-little : (p : Process ℕ) (fd n : ℕ) → ((e : End Segment ℕ) → reading_end itself s p fd ≡ Ok e → length (try_read s e n).bytes ≤ m) → Holds (Little (Reading fd n)) (tried s p (Reading fd n))
  read-little p fd n h = by_end (reading_end itself s p fd) refl
    where
      by_end : (r : Result (End Segment ℕ) Errno) → reading_end itself s p fd ≡ r → Holds (Little (Reading fd n)) (r >>= (λ e. Ok (try_read s e n)))
      by_end (Ok e) is = h e is
      by_end (Err e) is = tt

  pub read-few : (c : Limits) (pid fd n : ℕ) → ((e : End Segment ℕ) → (ready s pid >>= (λ p. reading_end itself s p fd)) ≡ Ok e → length (try_read s e n).bytes ≤ m) → Holds Few (call c s (Read pid fd n))
  read-few c pid fd n h = by_caller (ready s pid) refl
    where
      by_caller : (r : Result (Process ℕ) Errno) → ready s pid ≡ r → Holds Few (r >>= (λ p. transfer s pid p false (Reading fd n)))
      by_caller (Err e) is = tt
      by_caller (Ok p) is = transfer-few pid p false (Reading fd n) (read-little p fd n (λ e found. h e (ap (λ r. r >>= (λ q. reading_end itself s q fd)) is ∙ found)))

  -- A call that is tried again

  call_is : (pid : ℕ) (p : Process ℕ) → living s pid ≡ Ok p → call_of s pid ≡ p.parked
  call_is pid p is = by_process (process s pid) is
    where
      by_process : (o : Option (Process ℕ)) → or_refuse ESRCH o ≡ Ok p → option_and_then (λ (q : Process ℕ). q.parked) o ≡ p.parked
      by_process None e = absurd (cc)
      by_process (Some q) e = let same : q ≡ p = cc in ap (λ (x : Process ℕ). x.parked) same

  pub resume-few : (c : Limits) (pid : ℕ) → ((p : Process ℕ) (fd n : ℕ) (e : End Segment ℕ) → call_of s pid ≡ Some (Moving (Reading fd n)) → reading_end itself s p fd ≡ Ok e → length (try_read s e n).bytes ≤ m) → Holds Few (call c s (Resume pid))
  resume-few c pid h = by_caller (living s pid) refl
    where
      of_call : (p : Process ℕ) (call : Call ℕ) → call_of s pid ≡ Some call → Holds Told (attempt s pid p call)
      of_call p (Opening n kept) is = carries Told (or_refuse EBADF (end_at itself s n)) (λ e. Ok (open_told s pid p n kept e)) (λ e. told_again s s pid p n (Opening n kept) (nat_lt kept (other_opens e)))
      of_call p (Moving (Reading fd n)) is = attempt-few pid p (Reading fd n) (read-little p fd n (λ e found. h p fd n e is found))
      of_call p (Moving (Writing fd x written)) is = attempt-few pid p (Writing fd x written) (any_tried (tried s p (Writing fd x written)))
      of_call p (Moving (Bringing c source sink n)) is = attempt-few pid p (Bringing c source sink n) (any_tried (tried s p (Bringing c source sink n)))

      of_parked : (p : Process ℕ) (o : Option (Call ℕ)) → call_of s pid ≡ o → Holds Few (or_refuse EINVAL o >>= (λ call. Ok (again s pid (attempt s pid p call))))
      of_parked p None is = tt
      of_parked p (Some call) is = again-few pid (attempt s pid p call) (of_call p call is)

      by_caller : (r : Result (Process ℕ) Errno) → living s pid ≡ r → Holds Few (r >>= (λ p. resume s pid p))
      by_caller (Err e) is = tt
      by_caller (Ok p) is = of_parked p p.parked (call_is pid p is)

  -- A list

  pub list-few : (c : Limits) (pid : ℕ) (path : List ℕ) → ((p : Process ℕ) → ready s pid ≡ Ok p → Holds (λ names. length names ≤ m) (calls.list s.files p.cred path)) → Holds Few (call c s (Lists pid path))
  list-few c pid path h = by_caller (ready s pid) refl
    where
      by_caller : (r : Result (Process ℕ) Errno) → ready s pid ≡ r → Holds Few (r >>= (λ p. list s p path))
      by_caller (Err e) is = tt
      by_caller (Ok p) is = goes (λ names. length names ≤ m) Few (calls.list s.files p.cred path) _ (h p is) (λ names few. few)

  -- what a step is told is the call's reply, or a refusal
  pub few : (r : Result (Outcome Segment ℕ) Errno) → Holds Few r → reply_length (settle s r).reply ≤ m
  few (Ok o) h = h
  few (Err e) h = nothing
