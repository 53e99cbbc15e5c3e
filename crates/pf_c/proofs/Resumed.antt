-- What a call that is tried again is told: bytes, a number, an error, or that it waits on. So the number that the hub
-- hands out says it, and what lies in the host's buffer is what `Filled` has there.

use Rattle.std.proofs.Common.{◌≡◌, ℕ, ◌+◌, Bool, true, false, List, ◌++◌, length, take, drop, Option, Some, None, Result, Ok, Err, refl, sym, ap, subst, arith, nat_lt, if◌then◌else◌, length-take}
use Rattle.std.specs.Prelude.{⊤, min}
use Rattle.std.specs.Option.{option_map}
use Rattle.pf_base.specs.Limits.{Limits}
use Rattle.pf_base.specs.declared.errno.Errno.{Errno}
use Rattle.pf_base.specs.declared.errno.Errno.TheVariants.{EBADF, EINVAL}
use Rattle.pf_base.specs.declared.step.Answer.TheVariants.{Done}
use Rattle.pf_base.specs.declared.step.Reply.{Reply}
use Rattle.pf_base.specs.declared.step.Reply.TheVariants.{Num, Bytes, Parked, Err as Refused}
use Rattle.pf_base.specs.declared.step.Step.TheVariants.{Resume}
use Rattle.pf_machine.specs.Refusals.{or_refuse}
use Rattle.pf_machine.specs.Queue.{Segment}
use Rattle.pf_machine.specs.Progress.{moved}
use Rattle.pf_machine.specs.Calls.{Transfer, Reading, Writing, Bringing, Call, Opening, Moving}
use Rattle.pf_machine.specs.State.{itself, State, Process, Outcome, living, settle, end_at}
use Rattle.pf_machine.specs.Transfers.{Tried, tried}
use Rattle.pf_machine.specs.Attempts.{Attempt, Finished, Waits, transfer_told, given, other_opens, open_told, attempt, again, resume}
use Rattle.pf_machine.specs.Machine.{call, Answers}
use Rattle.pf_machine.proofs.AttemptLaws.{Says, IsTold, told-is}
use Rattle.pf_machine.proofs.HoldsLaws.{Holds, carries, found}
use Rattle.pf_frame.specs.Bytes.{filled}
use Rattle.pf_ring.specs.Laid.{laid}
use Rattle.pf_tables.specs.Buffers.{number_told}
use Rattle.pf_hub.specs.Tenants.{limits_at, state_at}
use Rattle.pf_c.specs.Codes.{code_of_answer}
use Rattle.pf_c.specs.Read.{code_of_read, bytes_handed}
use Rattle.pf_c.specs.Rows.{Held}
use Rattle.pf_c.specs.Told.{IsAnswered, bytes_of}

-- what holds of such replies
module _ (P : Reply → Type 0) (number : (n : ℕ) → P (Num n)) (bytes : (x : List ℕ) → P (Bytes x))
    (refused : (e : Errno) → P (Refused e)) (parked : P Parked) where
  abbrev Told : Attempt Segment ℕ → Type 0
  Told (Finished t reply) = P reply
  Told (Waits t call) = ⊤

  -- holds of what a transfer is told
  said : (call : Transfer) (x : List ℕ) (k : ℕ) (reply : Reply) → Says call x k reply → P reply
  said (Reading fd n) x k reply says = subst P (sym says.1) (bytes _)
  said (Writing fd y written) x k reply says = subst P (sym says) (number _)
  said (Bringing c source sink n) x k reply says = subst P (sym says) (number _)

  transfer-told : (call : Transfer) (t : Tried) → Holds Told (transfer_told call t t.progress)
  transfer-told call t = by_told (transfer_told call t t.progress) (told-is call t t.progress)
    where
      by_told : (r : Result (Attempt Segment ℕ) Errno) → IsTold call t (moved t.progress) r → Holds Told r
      by_told (Ok (Finished u reply)) is = said call t.bytes _ reply is.says
      by_told (Ok (Waits u next)) is = tt
      by_told (Err e) is = tt

  -- and an open
  open-told : (s : State Segment ℕ) (pid : ℕ) (p : Process ℕ) (n kept : ℕ) (b : Bool)
      → Told (if b then given s pid p n else Waits s (Opening n kept))
  open-told s pid p n kept true = number _
  open-told s pid p n kept false = tt

  attempt-told : (s : State Segment ℕ) (pid : ℕ) (p : Process ℕ) (call : Call ℕ) → Holds Told (attempt s pid p call)
  attempt-told s pid p (Opening n kept) =
      carries Told (or_refuse EBADF (end_at itself s n)) (λ e. Ok (open_told s pid p n kept e))
      (λ e. open-told s pid p n kept (nat_lt kept (other_opens e)))
  attempt-told s pid p (Moving call) =
      carries Told (tried s p call) (λ t. transfer_told call t t.progress) (transfer-told call)

  -- so of the reply to a Resume
  again-told : (s : State Segment ℕ) (pid : ℕ) (r : Result (Attempt Segment ℕ) Errno) → Holds Told r
      → P (again s pid r).reply
  again-told s pid (Ok (Finished t reply)) h = h
  again-told s pid (Ok (Waits t call)) h = parked
  again-told s pid (Err e) h = refused e

  abbrev Has : Outcome Segment ℕ → Type 0
  Has o = P o.reply

  called : (c : Limits) (s : State Segment ℕ) (pid : ℕ) → Holds Has (call c s (Resume pid))
  called c s pid =
      carries Has (living s pid) (λ p. resume s pid p)
      (λ p. found Has EINVAL p.parked _ (λ call is. again-told s pid _ (attempt-told s pid p call)))

  settled : (s : State Segment ℕ) (r : Result (Outcome Segment ℕ) Errno) → Holds Has r → P (settle s r).reply
  settled s (Ok o) h = h
  settled s (Err e) h = refused e

  answered : (c : Limits) (s new : State Segment ℕ) (pid : ℕ) (reply : Reply)
      → Answers c (Done reply) s (Resume pid) new → P reply
  answered c s new pid reply is =
      subst P (sym (ap (λ (o : Outcome Segment ℕ). o.reply) is)) (settled s (call c s (Resume pid)) (called c s pid))

-- the number that is handed out has its code, and the bytes are those of the answer
pub record Same (reply : Option Reply) : Type 0 where
  pub code : code_of_read (option_map number_told reply) ≡ code_of_answer (option_map Done reply)
  pub bytes : bytes_handed reply ≡ bytes_of (option_map Done reply)

pub is_same : (old new : Option Held) (n pid : ℕ) (reply : Option Reply)
    → IsAnswered old new n (Resume pid) true (option_map Done reply) → Same reply
is_same old new n pid None is = record { code = refl; bytes = refl }
is_same (Some old) (Some new) n pid (Some reply) is =
    answered (λ reply. Same (Some reply)) (λ n. record { code = refl; bytes = refl })
    (λ x. record { code = refl; bytes = refl }) (λ e. record { code = refl; bytes = refl })
    (record { code = refl; bytes = refl })
    (limits_at old.world n) (state_at old.world n) (state_at new.world n) pid reply is.answers
is_same (Some old) None n pid (Some reply) is = absurd is
is_same None (Some new) n pid (Some reply) is = absurd is
is_same None None n pid (Some reply) is = absurd (cc)

-- they lie in the host's buffer, as many as it has room for
pub lie : (bytes before : List ℕ)
    → laid bytes before ≡ filled 0 (take (min (length bytes) (length before)) bytes) before
lie bytes before =
    let many = min (length bytes) (length before) in
    let as_many : many ≡ 0 + length (take many bytes) = omega (arith, length-take many bytes) in
    ap (λ n. take many bytes ++ drop n before) as_many
