-- A call that is tried again into a buffer: what is told of it stands for the machine's reply, whose first bytes lie
-- there.

use Rattle.std.proofs.lemmas.List.{nil_from_length}
use Rattle.std.proofs.Common.{◌≡◌, ◌⊎◌, inl, inr, ℕ, ◌≤◌, true, false, List, [], Option, Some, None}
use Rattle.std.proofs.Common.{Result, Ok, Err, refl, sym, ap, subst, ◌∙◌, arith}
use Rattle.pf_space.proofs.Common.{Reading, Moving, Finished, transfer_told, call, Segment}
use Rattle.pf_space.proofs.Common.{itself, Outcome, sweep, Tried, Errno, Fault, Progress, Moved}
use Rattle.pf_space.proofs.Common.{WouldBlock, EndOfFile}
use Rattle.pf_space.proofs.Common.{NoReader, Reply, Live, Namespace, meaning, Owns, Told, tried_call, waits_in, ended}
use Rattle.pf_machine.specs.Machine.{Answers, call_of, hands_out, step_of}
use Rattle.pf_machine.specs.Progress.{moved}
use Rattle.pf_machine.specs.Replies.{reply_length}
use Rattle.pf_machine.proofs.ReplyLaws.{resume-few, few}
use Rattle.pf_base.specs.declared.fault.Fault.TheVariants as faults
use Rattle.pf_base.specs.declared.step.Answer.TheVariants.{Done}
use Rattle.pf_base.specs.declared.step.Reply.TheVariants as replies
use Rattle.pf_base.specs.declared.step.Step.TheVariants as steps
use Rattle.pf_ring.specs.Laid.{laid}
use Rattle.pf_ring.proofs.LaidLaws.{no_byte_lies}
use Rattle.pf_parked.specs.declared.call.Call.TheVariants.{Read}
use Rattle.pf_tables.specs.Buffers.{Truncates, Replied, number_told, bytes_told}
use Rattle.pf_tables.specs.Tables.{Woken}
use Rattle.pf_tables.specs.Told.{Came, Refused}
use Rattle.pf_space.proofs.ParkedResume.{resumed}
use Rattle.pf_space.proofs.ParkedTransfers.{parks, finishes, refuses}
use Rattle.pf_space.proofs.Steps.{made_step, refused_step}

-- a Resume is told so, and the first of its bytes lie in a buffer
abbrev pub Resumed : Live → Live → Namespace → Namespace → ℕ → Result (Option ℕ) Errno → List ℕ → List ℕ → Type 0
Resumed f g old new pid told before after =
    Replied (λ (reply : Reply). Answers old.limits (Done reply) (meaning f old.state) (steps.Resume pid)
    (meaning g new.state)) told before after

-- A read

-- where no byte came, none lies there
nothing : (progress : Progress) (before after : List ℕ) (r : Tried) → Truncates progress before after r
    → moved progress ≡ 0 → after ≡ laid [] before
nothing progress before after r lie zero =
    lie.1 ∙ ap (λ (xs : List ℕ). laid xs before) (nil_from_length r.bytes (lie.0 ∙ zero))

-- old: as it was before its process was woken. tables: as it is then, and is seen in the tables
module _ {D : Type 0} (live : D → Live) {x y : D} {tables mid old new : Namespace} (view : tables ≡ mid) (pid : ℕ)
    {fd n : ℕ} (woken : Woken old mid pid (Read fd n)) {told : Result (Option ℕ) Errno} (before : List ℕ)
    {after : List ℕ} where
  -- what it is told as a first call, it is told
  answered : (reply : Reply) (result : Result Reply Fault) → ended result ≡ Ok reply
      → (result ≡ Err faults.NoMemory → ⊥)
      → Told (live x) (live y) tables new result (tried_call (meaning (live x) tables.state) pid false (Reading fd n))
      → told ≡ number_told reply → after ≡ laid (bytes_told reply) before
      → Resumed (live x) (live y) old new pid told before after
  answered reply result is ample tried told_is lie =
      let here : Told (live x) (live y) old new (Ok reply)
      (call old.limits (meaning (live x) old.state) (steps.Resume pid)) =
      resumed (live x) {tables = old} refl pid (Reading fd n) woken.waited (view ∙ woken.namespace) woken.still tried
      ample (sym is) in
      record {
        reply = reply;
        is = made_step old.limits (meaning (live x) old.state) (meaning (live y) new.state) (steps.Resume pid) reply
            here.says;
        told_is = told_is;
        bytes_lie = lie;
      }

  module _ {between : Namespace} {progress : Progress} (came : Came live x y tables between pid (Reading fd n) progress
      (Truncates progress before after)) where
    pub waits_on : progress ≡ WouldBlock → new ≡ waits_in (Some (Moving (Reading fd n))) between pid → told ≡ Ok None
        → Resumed (live x) (live y) old new pid told before after
    waits_on is waiting says =
        answered replies.Parked (Ok replies.Parked) refl (λ e. absurd (cc))
        (parks live came (Moving (Reading fd n)) refl
        (ap (transfer_told (Reading fd n) came.tried) (came.progress_is ∙ is)) waiting) says
        (nothing progress before after came.tried came.holds (ap moved is))

  module _ {progress : Progress} (came : Came live x y tables new pid (Reading fd n) progress
      (Truncates progress before after)) where
    pub comes : {m : ℕ} → progress ≡ Moved m → told ≡ Ok (Some m)
        → Resumed (live x) (live y) old new pid told before after
    comes {m} is says =
        answered (replies.Bytes came.tried.bytes) (Ok (replies.Bytes came.tried.bytes)) refl (λ e. absurd (cc))
        (finishes live came (replies.Bytes came.tried.bytes)
        (ap (transfer_told (Reading fd n) came.tried) (came.progress_is ∙ is)))
        (says ∙ ap (λ (k : ℕ). Ok (Some k)) (sym (came.holds.0 ∙ ap moved is))) came.holds.1

    finished : transfer_told (Reading fd n) came.tried came.tried.progress
        ≡ Ok (Finished came.tried.state (replies.Bytes [])) → moved progress ≡ 0 → told ≡ Ok (Some 0)
        → Resumed (live x) (live y) old new pid told before after
    finished is zero says =
        answered (replies.Bytes []) (Ok (replies.Bytes [])) refl (λ e. absurd (cc))
        (finishes live came (replies.Bytes []) is) says
        (nothing progress before after came.tried came.holds zero)

    pub ends : (progress ≡ EndOfFile) ⊎ (progress ≡ NoReader) → told ≡ Ok (Some 0)
        → Resumed (live x) (live y) old new pid told before after
    ends is says = elim is [
      | inl e ↦ finished (ap (transfer_told (Reading fd n) came.tried) (came.progress_is ∙ e)) (ap moved e) says
      | inr e ↦ finished (ap (transfer_told (Reading fd n) came.tried) (came.progress_is ∙ e)) (ap moved e) says
    ]

  pub is_refused : {e : Errno} → Refused live x y tables new pid (Reading fd n) e → Owns (live x) tables → told ≡ Err e
      → after ≡ before → Resumed (live x) (live y) old new pid told before after
  is_refused {e} refused owns says lie =
      answered (replies.Err e) (Err (faults.Errno e)) refl (λ x. absurd (cc))
      (refuses live pid (Reading fd n) refused refl owns false) says (lie ∙ no_byte_lies before)

-- Another call

-- a reply that hands out nothing has no bytes
no_bytes : (reply : Reply) → reply_length reply ≤ 0 → bytes_told reply ≡ []
no_bytes (replies.Num n) short = refl
no_bytes (replies.Pid pid) short = refl
no_bytes (replies.Fds reading writing) short = refl
no_bytes (replies.Bytes bytes) short = nil_from_length bytes (omega (arith, short))
no_bytes (replies.Names names) short = refl
no_bytes (replies.Meta meta) short = refl
no_bytes replies.Parked short = refl
no_bytes (replies.Err e) short = refl

module _ (f g : Live) (old new : Namespace) (pid : ℕ) (told : Result (Option ℕ) Errno) (buffer : List ℕ) where
  pub others_told : hands_out (call_of (meaning f old.state) pid) ≡ false → (reply : Reply)
      → Told f g old new (Ok reply) (call old.limits (meaning f old.state) (steps.Resume pid))
      → told ≡ number_told reply → Resumed f g old new pid told buffer buffer
  others_told quiet reply here says =
      let s = meaning f old.state in
      let is : record {
        state = meaning g new.state;
        reply = reply;
      } ≡ step_of old.limits s (steps.Resume pid) = made_step old.limits s
      (meaning g new.state) (steps.Resume pid) reply here.says in
      let short : reply_length (step_of old.limits s (steps.Resume pid)).reply ≤ 0 =
      few s 0 (call old.limits s (steps.Resume pid))
      (resume-few s 0 old.limits pid (λ p fd n e waits found. let gap : true ≡ false =
      sym (ap hands_out waits) ∙ quiet in absurd (cc))) in
      let silent : bytes_told reply ≡ [] =
      no_bytes reply (subst (λ (r : Reply). reply_length r ≤ 0) (sym (ap (λ (o : Outcome Segment ℕ). o.reply) is))
      short) in
      record {
        reply = reply;
        is = is;
        told_is = says;
        bytes_lie = no_byte_lies buffer
            ∙ ap (λ (xs : List ℕ). laid xs buffer) (sym silent);
      }

  pub others_refused : (e : Errno) → Told f g old new (Err (faults.Errno e))
      (call old.limits (meaning f old.state) (steps.Resume pid))
      → meaning f old.state ≡ sweep itself (meaning f old.state) → told ≡ Err e
      → Resumed f g old new pid told buffer buffer
  others_refused e here still says =
      record {
        reply = replies.Err e;
        is = refused_step old.limits (meaning f old.state) (meaning g new.state)
            (steps.Resume pid) e here.says.0 here.says.1 still;
        told_is = says;
        bytes_lie = no_byte_lies buffer;
      }
