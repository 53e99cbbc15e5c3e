-- What a step takes out of a pipe is what its reply says.

use Rattle.std.proofs.Common.{◌≡◌, ℕ, zero, suc, Bool, true, false, not, ◌||◌, List, [], length, Option, Some, None, Ok, Err, refl, sym, ap, ◌∙◌, subst, ◌⊎◌, inl, inr, ⊎_elim, nat_eq, nat_lt, if◌then◌else◌}
use Rattle.std.specs.Prelude.{Result, is_some}
use Rattle.std.specs.Option.{option_and_then}
use Rattle.pf_machine.specs.Refusals.{◌>>=◌, ◌>>◌, refuse_if, or_refuse}
use Rattle.pf_base.specs.Limits.{Limits}
use Rattle.pf_machine.specs.Queue.{Segment, taken}
use Rattle.pf_machine.specs.Progress.{moved, read_now, cross_now}
use Rattle.pf_base.specs.declared.errno.Errno.{Errno}
use Rattle.pf_base.specs.declared.errno.Errno.TheVariants.{ESRCH, EBUSY, EBADF, EAGAIN, EINVAL, EPIPE}
use Rattle.pf_base.specs.declared.progress.Crossing.TheVariants.{Tee, Splice}
use Rattle.pf_base.specs.declared.progress.Progress.{Progress}
use Rattle.pf_base.specs.declared.progress.Progress.TheVariants.{Moved, EndOfFile, NoReader, WouldBlock}
use Rattle.pf_base.specs.declared.step.Reply.{Reply}
use Rattle.pf_base.specs.declared.step.Reply.TheVariants as replies
use Rattle.pf_base.specs.declared.step.Step.{Step}
use Rattle.pf_base.specs.declared.step.Step.TheVariants as steps
use Rattle.pf_machine.specs.Numbered.{at}
use Rattle.pf_machine.specs.Calls.{Transfer, Reading, Writing, Bringing, Call, Opening, Moving, written_of}
use Rattle.pf_machine.specs.State.{itself, State, Process, End, settle, living, ready, end_at, writing_end, with_queue}
use Rattle.pf_machine.specs.Counts.{readers, writers}
use Rattle.pf_base.specs.declared.TheConstants.{MAX_WRITE}
use Rattle.pf_machine.specs.Transfers.{Ends, tried, try_read, try_write, two_ends, try_cross}
use Rattle.pf_machine.specs.Attempts.{Attempt, Finished, Waits, read_told, cross_told, unwaiting, transfer_told, attempt, first, again, nonblocking, transfer, resume}
use Rattle.pf_machine.specs.Machine.{call_of, step_of}
use Rattle.pf_laws.specs.Streams.{transfer_of, tried_call, taken_out, end_named, out_of, says_taken, says_again, says_out}

module _ (p : ℕ) (s : State Segment ℕ) where
  -- Replies that say nothing of bytes

  abbrev pub IsSilent : Reply → Type 0
  IsSilent y = (y ≡ replies.Parked) ⊎ ((e : Errno) × (y ≡ replies.Err e))

  silent-says : (pid : ℕ) (call : Transfer) (y : Reply) → IsSilent y → says_taken p s pid call y ≡ []
  silent-says pid call y silent =
      ⊎_elim (λ e. ap (says_taken p s pid call) e ∙ parked call) (λ e. ap (says_taken p s pid call) e.1
      ∙ error e.0 call) silent
    where
      parked : (call : Transfer) → says_taken p s pid call replies.Parked ≡ []
      parked (Reading fd n) = refl
      parked (Writing fd x written) = refl
      parked (Bringing Tee source sink n) = refl
      parked (Bringing Splice source sink n) = refl

      error : (e : Errno) (call : Transfer) → says_taken p s pid call (replies.Err e) ≡ []
      error e (Reading fd n) = refl
      error e (Writing fd x written) = refl
      error e (Bringing Tee source sink n) = refl
      error e (Bringing Splice source sink n) = refl

  -- how an attempt is told
  pub record Telling (tell : Result (Attempt Segment ℕ) Errno → Reply) : Type 0 where
    pub finished : (t : State Segment ℕ) (y : Reply) → tell (Ok (Finished t y)) ≡ y
    pub waits : (t : State Segment ℕ) (call : Call ℕ) → written_of call ≡ 0 → IsSilent (tell (Ok (Waits t call)))
    pub refused : (e : Errno) → tell (Err e) ≡ replies.Err e

  pub telling-first : (pid : ℕ) (b : Bool) → Telling (λ r. (settle s (r >>= first pid b)).reply)
  telling-first pid b = record { finished = λ t y. refl; waits = waits b; refused = λ e. refl }
    where
      none : (t : State Segment ℕ) (n : ℕ) → n ≡ 0 → IsSilent (settle s (unwaiting t n)).reply
      none t n e = subst (λ m. IsSilent (settle s (unwaiting t m)).reply) (sym e) (inr (EAGAIN, refl))

      waits : (b : Bool) (t : State Segment ℕ) (call : Call ℕ) → written_of call ≡ 0
          → IsSilent (settle s (first pid b (Waits t call))).reply
      waits true t call e = none t (written_of call) e
      waits false t call e = inl refl

  pub telling-again : (pid : ℕ) → Telling (λ r. (again s pid r).reply)
  telling-again pid = record { finished = λ t y. refl; waits = λ t call e. inl refl; refused = λ e. refl }

  -- One transfer

  module _ (i : ℕ) (w : Process ℕ) (here : at s.processes i ≡ Some w) (tell : Result (Attempt Segment ℕ) Errno → Reply)
      (how : Telling tell) where
    says-error : (call : Transfer) (e : Errno) → says_taken p s (suc i) call (tell (Err e)) ≡ []
    says-error call e = silent-says (suc i) call (tell (Err e)) (inr (e, how.refused e))

    says-waits : (call : Transfer) (t : State Segment ℕ) (next : Call ℕ) → written_of next ≡ 0
        → says_taken p s (suc i) call
        (tell (Ok (Waits t next))) ≡ []
    says-waits call t next e = silent-says (suc i) call (tell (Ok (Waits t next))) (how.waits t next e)

    says-finished : (call : Transfer) (t : State Segment ℕ) (y : Reply) → says_taken p s (suc i) call
        (tell (Ok (Finished t y))) ≡ says_taken p s (suc i) call y
    says-finished call t y = ap (says_taken p s (suc i) call) (how.finished t y)

    -- a descriptor's end
    named : (fd : ℕ) → end_named s (suc i) fd ≡ option_and_then (end_at itself s) (at w.descriptors fd)
    named fd = ap (λ (o : Option (Process ℕ)). option_and_then (λ (p : Process ℕ). option_and_then (end_at itself s)
        (at p.descriptors fd)) o) here

    nothing : (b : Bool) (x : List ℕ) → x ≡ [] → (if b then x else []) ≡ []
    nothing true x e = e
    nothing false x e = refl

    read-says : (fd n : ℕ) → taken_out p (tried s w (Reading fd n)) ≡ says_taken p s (suc i) (Reading fd n)
        (tell (attempt s (suc i) w (Moving (Reading fd n))))
    read-says fd n = by_end (option_and_then (end_at itself s) (at w.descriptors fd)) (named fd)
      where
        call : Transfer
        call = Reading fd n

        by_progress : (e : End Segment ℕ) → end_named s (suc i) fd ≡ Some e → (u : State Segment ℕ) (r : Progress)
            → (if nat_eq e.description.pipe p then taken e.pipe.queue (moved r) else [])
            ≡ says_taken p s (suc i) call
            (tell (read_told (Moving call)
            (record {
              state = u;
              progress = r;
              bytes = taken e.pipe.queue (moved r);
              from = Some e.description.pipe;
              into = None;
            }) r))
        by_progress e is u (Moved k) =
            sym (says-finished call u (replies.Bytes (taken e.pipe.queue k))
            ∙ ap (λ (o : Option (End Segment ℕ)). out_of p o (λ q. taken e.pipe.queue k)) is)
        by_progress e is u EndOfFile =
            sym (says-finished call u (replies.Bytes []) ∙ ap (λ (o : Option (End Segment ℕ)). out_of p o (λ q. [])) is)
        by_progress e is u NoReader =
            sym (says-finished call u (replies.Bytes []) ∙ ap (λ (o : Option (End Segment ℕ)). out_of p o (λ q. [])) is)
        by_progress e is u WouldBlock = nothing (nat_eq e.description.pipe p) [] refl
            ∙ sym (says-waits call u (Moving call) refl)

        by_test : (e : End Segment ℕ) → end_named s (suc i) fd ≡ Some e → (b : Bool)
            → taken_out p ((refuse_if b EBADF >> Ok e) >>= (λ e. Ok (try_read s e n)))
            ≡ says_taken p s (suc i) call
            (tell (((refuse_if b EBADF >> Ok e) >>= (λ e. Ok (try_read s e n))) >>=
            (λ t. transfer_told call t t.progress)))
        by_test e is true = sym (says-error call EBADF)
        by_test e is false =
            let r = read_now e.pipe.queue (writers itself s e.description.pipe) n in
            by_progress e is (with_queue s e.description.pipe r.queue) r.progress

        by_end : (o : Option (End Segment ℕ)) → end_named s (suc i) fd ≡ o
            → taken_out p ((or_refuse EBADF o >>= (λ e. refuse_if (not e.description.reads) EBADF >> Ok e)) >>=
            (λ e. Ok (try_read s e n)))
            ≡ says_taken p s (suc i) call
            (tell (((or_refuse EBADF o >>= (λ e. refuse_if (not e.description.reads) EBADF >> Ok e)) >>=
            (λ e. Ok (try_read s e n))) >>= (λ t. transfer_told call t t.progress)))
        by_end None is = sym (says-error call EBADF)
        by_end (Some e) is = by_test e is (not e.description.reads)

    -- what comes of two ends of a splice, which may be refused
    abbrev SpliceSays : ℕ → ℕ → ℕ → Result Ends Errno → Type 0
    SpliceSays source sink n r =
        taken_out p (r >>= (λ e. Ok (try_cross Splice s e n)))
        ≡ says_taken p s (suc i) (Bringing Splice source sink n)
        (tell ((r >>= (λ e. Ok (try_cross Splice s e n))) >>=
        (λ t. transfer_told (Bringing Splice source sink n) t t.progress)))

    splice-says : (source sink n : ℕ) → taken_out p (tried s w (Bringing Splice source sink n)) ≡ says_taken p s
        (suc i) (Bringing Splice source sink n) (tell (attempt s (suc i) w (Moving (Bringing Splice source sink n))))
    splice-says source sink n = by_source (option_and_then (end_at itself s) (at w.descriptors source)) (named source)
      where
        call : Transfer
        call = Bringing Splice source sink n

        by_progress : (e : End Segment ℕ) → end_named s (suc i) source ≡ Some e
            → (u : State Segment ℕ) (o : ℕ) (r : Progress)
            → (if nat_eq e.description.pipe p then taken e.pipe.queue (moved r) else [])
            ≡ says_taken p s (suc i) call
            (tell (cross_told (Moving call)
            (record {
              state = u;
              progress = r;
              bytes = taken e.pipe.queue (moved r);
              from = Some e.description.pipe;
              into = Some o;
            }) r))
        by_progress e is u o (Moved k) =
            sym (says-finished call u (replies.Num k)
            ∙ ap (λ (o : Option (End Segment ℕ)). out_of p o (λ q. taken q k)) is)
        by_progress e is u o EndOfFile =
            sym (says-finished call u (replies.Num 0)
            ∙ ap (λ (o : Option (End Segment ℕ)). out_of p o (λ q. taken q 0)) is)
        by_progress e is u o NoReader = nothing (nat_eq e.description.pipe p) [] refl ∙ sym (says-error call EPIPE)
        by_progress e is u o WouldBlock = nothing (nat_eq e.description.pipe p) [] refl
            ∙ sym (says-waits call u (Moving call) refl)

        by_pipes : (e o : End Segment ℕ) → end_named s (suc i) source ≡ Some e → (b : Bool) → SpliceSays source sink n
            (refuse_if b EINVAL >> Ok (record { source = e; sink = o }))
        by_pipes e o is true = sym (says-error call EINVAL)
        by_pipes e o is false =
            let r = cross_now Splice e.pipe.queue o.pipe.queue (writers itself s e.description.pipe)
            (readers itself s o.description.pipe) n in
            by_progress e is
            (with_queue
            (with_queue s o.description.pipe r.sink) e.description.pipe r.source) o.description.pipe r.progress

        by_sink : (e : End Segment ℕ) → end_named s (suc i) source ≡ Some e → (r : Result (End Segment ℕ) Errno)
            → SpliceSays source sink n
            (r >>= (λ o. refuse_if (nat_eq e.description.pipe o.description.pipe) EINVAL >> Ok
            (record { source = e; sink = o })))
        by_sink e is (Ok o) = by_pipes e o is (nat_eq e.description.pipe o.description.pipe)
        by_sink e is (Err x) = sym (says-error call x)

        by_test : (e : End Segment ℕ) → end_named s (suc i) source ≡ Some e → (b : Bool)
            → SpliceSays source sink n
            ((refuse_if b EBADF >> Ok e) >>=
            (λ i. writing_end itself s w sink >>=
            (λ o. refuse_if (nat_eq i.description.pipe o.description.pipe) EINVAL >> Ok
            (record { source = i; sink = o }))))
        by_test e is true = sym (says-error call EBADF)
        by_test e is false = by_sink e is (writing_end itself s w sink)

        by_source : (o : Option (End Segment ℕ)) → end_named s (suc i) source ≡ o
            → SpliceSays source sink n
            ((or_refuse EBADF o >>= (λ e. refuse_if (not e.description.reads) EBADF >> Ok e)) >>=
            (λ i. writing_end itself s w sink >>=
            (λ o. refuse_if (nat_eq i.description.pipe o.description.pipe) EINVAL >> Ok
            (record { source = i; sink = o }))))
        by_source None is = sym (says-error call EBADF)
        by_source (Some e) is = by_test e is (not e.description.reads)

    -- the other two take nothing
    transfer-says : (call : Transfer) → taken_out p (tried s w call) ≡ says_taken p s (suc i) call
        (tell (attempt s (suc i) w (Moving call)))
    transfer-says (Reading fd n) = read-says fd n
    transfer-says (Writing fd x written) = by_end (writing_end itself s w fd)
      where
        by_test : (e : End Segment ℕ) (b : Bool) → taken_out p (refuse_if b EINVAL >> Ok (try_write s e x written)) ≡ []
        by_test e true = refl
        by_test e false = refl

        by_end : (r : Result (End Segment ℕ) Errno)
            → taken_out p
            (r >>= (λ e. refuse_if (nat_lt MAX_WRITE (length x)) EINVAL >> Ok (try_write s e x written))) ≡ []
        by_end (Ok e) = by_test e (nat_lt MAX_WRITE (length x))
        by_end (Err e) = refl
    transfer-says (Bringing Tee source sink n) = by_ends (two_ends s w source sink)
      where
        by_ends : (r : Result Ends Errno) → taken_out p (r >>= (λ e. Ok (try_cross Tee s e n))) ≡ []
        by_ends (Ok e) = refl
        by_ends (Err e) = refl
    transfer-says (Bringing Splice source sink n) = splice-says source sink n

  -- One step

  ready-says : (pid : ℕ) (flag : Bool) (call : Transfer)
      → taken_out p (ready s pid >>= (λ w. tried s w call)) ≡ says_taken p s pid call
      (settle s (ready s pid >>= (λ w. transfer s pid w flag call))).reply
  ready-says zero flag call = sym (silent-says 0 call (replies.Err ESRCH) (inr (ESRCH, refl)))
  ready-says (suc i) flag call = by_process (at s.processes i) refl
    where
      by_call : (w : Process ℕ) → at s.processes i ≡ Some w → (b : Bool)
          → taken_out p ((refuse_if b EBUSY >> Ok w) >>= (λ w. tried s w call)) ≡ says_taken p s (suc i) call
          (settle s ((refuse_if b EBUSY >> Ok w) >>= (λ w. transfer s (suc i) w flag call))).reply
      by_call w here true = sym (silent-says (suc i) call (replies.Err EBUSY) (inr (EBUSY, refl)))
      by_call w here false =
          transfer-says i w here (λ r. (settle s (r >>= first (suc i) (flag || nonblocking s w call))).reply)
          (telling-first (suc i) (flag || nonblocking s w call)) call

      by_process : (o : Option (Process ℕ)) → at s.processes i ≡ o
          → taken_out p ((or_refuse ESRCH o >>= (λ w. refuse_if (is_some w.parked) EBUSY >> Ok w)) >>=
          (λ w. tried s w call))
          ≡ says_taken p s (suc i) call
          (settle s ((or_refuse ESRCH o >>= (λ w. refuse_if (is_some w.parked) EBUSY >> Ok w)) >>=
          (λ w. transfer s (suc i) w flag call))).reply
      by_process None here = sym (silent-says (suc i) call (replies.Err ESRCH) (inr (ESRCH, refl)))
      by_process (Some w) here = by_call w here (is_some w.parked)

  resume-says : (pid : ℕ) → taken_out p (transfer_of s (steps.Resume pid)) ≡ says_again p s pid (call_of s pid)
      (settle s (living s pid >>= (λ w. resume s pid w))).reply
  resume-says zero = refl
  resume-says (suc i) = by_process (at s.processes i) refl
    where
      by_call : (w : Process ℕ) → at s.processes i ≡ Some w → (o : Option (Call ℕ))
          → taken_out p (or_refuse EINVAL o >>= tried_call s w) ≡ says_again p s (suc i) o
          (settle s (or_refuse EINVAL o >>= (λ call. Ok (again s (suc i) (attempt s (suc i) w call))))).reply
      by_call w here None = refl
      by_call w here (Some (Opening n kept)) = refl
      by_call w here (Some (Moving call)) =
          transfer-says i w here (λ r. (again s (suc i) r).reply) (telling-again (suc i)) call

      by_process : (o : Option (Process ℕ)) → at s.processes i ≡ o
          → taken_out p (or_refuse ESRCH o >>= (λ w. or_refuse EINVAL w.parked >>= tried_call s w))
          ≡ says_again p s (suc i) (option_and_then (λ (w : Process ℕ). w.parked) o)
          (settle s (or_refuse ESRCH o >>= (λ w. resume s (suc i) w))).reply
      by_process None here = refl
      by_process (Some w) here = by_call w here w.parked

  pub taken_told : (c : Limits) (x : Step) → taken_out p (transfer_of s x) ≡ says_out p s x (step_of c s x).reply
  taken_told c (steps.Read pid fd n) = ready-says pid false (Reading fd n)
  taken_told c (steps.Write pid fd payload) = ready-says pid false (Writing fd payload 0)
  taken_told c (steps.Tee pid source sink n nonblock) = ready-says pid nonblock (Bringing Tee source sink n)
  taken_told c (steps.Splice pid source sink n nonblock) = ready-says pid nonblock (Bringing Splice source sink n)
  taken_told c (steps.Resume pid) = resume-says pid
  taken_told c x = refl
