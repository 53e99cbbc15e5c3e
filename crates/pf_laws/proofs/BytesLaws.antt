-- Whoever is told bytes took them out of one pipe.

use Rattle.std.proofs.Common.{◌≡◌, ℕ, ◌+◌, ◌≤◌, Bool, true, false, ◌||◌, List, [], ◌∷◌, length, Option, Some, None, Ok, Err, refl, sym, ap, ◌∙◌, subst, ⊎_elim, arith, nat_eq, nat_lt, if◌then◌else◌}
use Rattle.std.proofs.lemmas.Bool.{eq-eqb}
use Rattle.std.specs.Prelude.{Result}
use Rattle.pf_machine.specs.Refusals.{◌>>=◌, or_refuse}
use Rattle.pf_base.specs.Limits.{Limits}
use Rattle.pf_machine.specs.Queue.{Segment, taken}
use Rattle.pf_machine.specs.Progress.{moved}
use Rattle.pf_base.specs.declared.errno.Errno.{Errno}
use Rattle.pf_base.specs.declared.errno.Errno.TheVariants.{EBADF, EINVAL, EPIPE}
use Rattle.pf_base.specs.declared.progress.Progress.{Progress}
use Rattle.pf_base.specs.declared.progress.Progress.TheVariants.{Moved, EndOfFile, NoReader, WouldBlock}
use Rattle.pf_base.specs.declared.step.Reply.{Reply}
use Rattle.pf_base.specs.declared.step.Reply.TheVariants as replies
use Rattle.pf_base.specs.declared.step.Step.{Step}
use Rattle.pf_base.specs.declared.step.Step.TheVariants as steps
use Rattle.pf_machine.specs.Calls.{Reading, Writing, Bringing, Call, Opening, Moving}
use Rattle.pf_machine.specs.State.{itself, State, Process, End, settle, living, ready, end_at, reading_end}
use Rattle.pf_machine.specs.Transfers.{Tried, tried, try_read}
use Rattle.pf_machine.specs.Attempts.{Attempt, Finished, Waits, given, other_opens, open_told, write_told, cross_told, read_told, transfer_told, attempt, first, again, nonblocking, transfer, resume}
use Rattle.pf_machine.specs.Files.{list}
use Rattle.pf_machine.specs.FileCalls as calls
use Rattle.pf_machine.specs.Machine.{call, step_of}
use Rattle.pf_machine.specs.Replies.{reply_length}
use Rattle.pf_machine.proofs.HoldsLaws.{Holds, carries}
use Rattle.pf_machine.proofs.ReplyLaws.{Few, quiet, few}
use Rattle.pf_laws.specs.Streams.{tried_call, if_at, taken_out, says_out, Took}
use Rattle.pf_laws.proofs.TakenLaws.{IsSilent, Telling, telling-first, telling-again, taken_told}

module _ (s : State Segment ℕ) where
  -- these bytes went out of one pipe
  abbrev Gone : Result Tried Errno → List ℕ → Type 0
  Gone r y = (n : ℕ) × (taken_out n r ≡ y)

  -- A read

  -- it took its bytes out of one pipe, and none where none moved
  pub record Reads (t : Tried) : Type 0 where
    pub pipe : ℕ
    pub from : t.from ≡ Some pipe
    pub none : moved t.progress ≡ 0 → t.bytes ≡ []

  tried-reads : (w : Process ℕ) (fd n : ℕ) → Holds Reads (tried s w (Reading fd n))
  tried-reads w fd n = carries Reads (reading_end itself s w fd) (λ e. Ok (try_read s e n))
      (λ e. record { pipe = e.description.pipe; from = refl; none = λ z. ap (λ m. taken e.pipe.queue m) z })

  gone-all : (t : Tried) → Reads t → (y : List ℕ) → t.bytes ≡ y → Gone (Ok t) y
  gone-all t h y e = (
    h.pipe,
    ap (λ (o : Option ℕ). if_at h.pipe o t.bytes) h.from ∙ ap (λ b. if b then t.bytes else [])
        (eq-eqb h.pipe h.pipe refl) ∙ e,
  )

  never : (y : List ℕ) (reply : Reply) → IsSilent 0 s reply → reply ≡ replies.Bytes y → ⊥
  never y reply silent e =
      ⊎_elim (λ parked. absurd (cc)) (λ error. let refused : reply ≡ replies.Err error.0 = error.1 in absurd
      (cc)) silent

  module _ (tell : Result (Attempt Segment ℕ) Errno → Reply) (how : Telling 0 s tell) (fd n : ℕ) (y : List ℕ) where
    read-gone : (t : Tried) (r : Progress) → t.progress ≡ r → Reads t
        → tell (read_told (Moving (Reading fd n)) t r) ≡ replies.Bytes y → Gone (Ok t) y
    read-gone t (Moved k) e h told =
        gone-all t h y (let same : replies.Bytes t.bytes ≡ replies.Bytes y = sym
        (how.finished t.state (replies.Bytes t.bytes)) ∙ told in cc)
    read-gone t EndOfFile e h told =
        gone-all t h y (h.none (ap (λ (p : Progress). moved p) e)
        ∙ (let same : replies.Bytes [] ≡ replies.Bytes y = sym (how.finished t.state (replies.Bytes [])) ∙ told in cc))
    read-gone t NoReader e h told =
        gone-all t h y (h.none (ap (λ (p : Progress). moved p) e)
        ∙ (let same : replies.Bytes [] ≡ replies.Bytes y = sym (how.finished t.state (replies.Bytes [])) ∙ told in cc))
    read-gone t WouldBlock e h told =
        absurd (never y (tell (Ok (Waits t.state (Moving (Reading fd n)))))
        (how.waits t.state (Moving (Reading fd n)) refl) told)

    tried-gone : (r : Result Tried Errno) → Holds Reads r
        → tell (r >>= (λ t. transfer_told (Reading fd n) t t.progress)) ≡ replies.Bytes y → Gone r y
    tried-gone (Ok t) h told = read-gone t t.progress refl h told
    tried-gone (Err e) h told =
        absurd (let refused : replies.Err e ≡ replies.Bytes y = sym (how.refused e) ∙ told in cc)

  -- The Resume of a call

  -- nothing is told of bytes
  abbrev Mute : Result (Attempt Segment ℕ) Errno → Type 0
  Mute (Ok (Finished t reply)) = (y : List ℕ) → reply ≡ replies.Bytes y → ⊥
  Mute (Ok (Waits t call)) = Unit {0}
  Mute (Err e) = Unit {0}

  number : (m : ℕ) (y : List ℕ) → replies.Num m ≡ replies.Bytes y → ⊥
  number m y e = absurd (cc)

  write-mute : (fd : ℕ) (x : List ℕ) (d : ℕ) (t : Tried) (r : Progress) → Mute (write_told fd x d t r)
  write-mute fd x d t (Moved n) = by_test (nat_eq (d + n) (length x))
    where
      by_test : (b : Bool) → Mute (if b then Ok (Finished t.state (replies.Num (length x))) else Ok
          (Waits t.state (Moving (Writing fd x (d + n)))))
      by_test true = number (length x)
      by_test false = tt
  write-mute fd x d t NoReader = by_test (nat_eq d 0)
    where
      by_test : (b : Bool) → Mute (if b then Err EPIPE else Ok (Finished t.state (replies.Num d)))
      by_test true = tt
      by_test false = number d
  write-mute fd x d t EndOfFile = tt
  write-mute fd x d t WouldBlock = tt

  cross-mute : (call : Call ℕ) (t : Tried) (r : Progress) → Mute (cross_told call t r)
  cross-mute call t (Moved n) = number n
  cross-mute call t EndOfFile = number 0
  cross-mute call t NoReader = tt
  cross-mute call t WouldBlock = tt

  then-mute : (r : Result Tried Errno) (f : Tried → Result (Attempt Segment ℕ) Errno) → ((t : Tried) → Mute (f t))
      → Mute (r >>= f)
  then-mute (Ok t) f h = h t
  then-mute (Err e) f h = tt

  open-mute : (pid : ℕ) (w : Process ℕ) (n kept : ℕ) (r : Result (End Segment ℕ) Errno)
      → Mute (r >>= (λ e. Ok (open_told s pid w n kept e)))
  open-mute pid w n kept (Err e) = tt
  open-mute pid w n kept (Ok e) = by_test (nat_lt kept (other_opens e))
    where
      by_test : (b : Bool) → Mute (Ok (if b then given s pid w n else Waits s (Opening n kept)))
      by_test true = number _
      by_test false = tt

  mute-again : (pid : ℕ) (y : List ℕ) (r : Result (Attempt Segment ℕ) Errno) → Mute r
      → (again s pid r).reply ≡ replies.Bytes y → ⊥
  mute-again pid y (Ok (Finished t reply)) h e = h y e
  mute-again pid y (Ok (Waits t call)) h e = absurd (cc)
  mute-again pid y (Err x) h e = absurd (cc)

  again-gone : (pid : ℕ) (w : Process ℕ) (y : List ℕ) (o : Option (Call ℕ))
      → (settle s (or_refuse EINVAL o >>= (λ call. Ok (again s pid (attempt s pid w call))))).reply ≡ replies.Bytes y
      → Gone (or_refuse EINVAL o >>= tried_call s w) y
  again-gone pid w y None e = absurd (cc)
  again-gone pid w y (Some (Opening n kept)) e =
      absurd (mute-again pid y (attempt s pid w (Opening n kept))
      (open-mute pid w n kept (or_refuse EBADF (end_at itself s n))) e)
  again-gone pid w y (Some (Moving (Reading fd n))) e =
      tried-gone (λ r. (again s pid r).reply) (telling-again 0 s pid) fd n y (tried s w (Reading fd n))
      (tried-reads w fd n) e
  again-gone pid w y (Some (Moving (Writing fd x d))) e =
      absurd (mute-again pid y (attempt s pid w (Moving (Writing fd x d)))
      (then-mute (tried s w (Writing fd x d)) (λ t. write_told fd x d t t.progress)
      (λ t. write-mute fd x d t t.progress)) e)
  again-gone pid w y (Some (Moving (Bringing c source sink n))) e =
      absurd (mute-again pid y (attempt s pid w (Moving (Bringing c source sink n)))
      (then-mute (tried s w (Bringing c source sink n))
      (λ t. cross_told (Moving (Bringing c source sink n)) t t.progress)
      (λ t. cross-mute (Moving (Bringing c source sink n)) t t.progress)) e)

  resume-gone : (pid : ℕ) (y : List ℕ) (r : Result (Process ℕ) Errno)
      → (settle s (r >>= (λ w. resume s pid w))).reply ≡ replies.Bytes y
      → Gone (r >>= (λ w. or_refuse EINVAL w.parked >>= tried_call s w)) y
  resume-gone pid y (Ok w) e = again-gone pid w y w.parked e
  resume-gone pid y (Err x) e = absurd (cc)

  -- Steps

  ready-gone : (pid fd n : ℕ) (y : List ℕ) (r : Result (Process ℕ) Errno)
      → (settle s (r >>= (λ w. transfer s pid w false (Reading fd n)))).reply ≡ replies.Bytes y
      → Gone (r >>= (λ w. tried s w (Reading fd n))) y
  ready-gone pid fd n y (Ok w) e =
      let b = false || nonblocking s w (Reading fd n) in
      tried-gone (λ r. (settle s (r >>= first pid b)).reply) (telling-first 0 s pid b) fd n y
      (tried s w (Reading fd n)) (tried-reads w fd n) e
  ready-gone pid fd n y (Err x) e = absurd (cc)

  list-mute : (y path : List ℕ) (r : Result (Process ℕ) Errno)
      → (settle s (r >>= (λ w. list s w path))).reply ≡ replies.Bytes y → ⊥
  list-mute y path (Err x) e = absurd (cc)
  list-mute y path (Ok w) e = by_names (calls.list s.files w.cred path) e
    where
      by_names : (r : Result (List ℕ) Errno)
          → (settle s
          (r >>= (λ names. Ok (record { state = s; reply = replies.Names names })))).reply ≡ replies.Bytes y → ⊥
      by_names (Ok names) e = absurd (cc)
      by_names (Err x) e = absurd (cc)

  -- any other step hands out nothing
  quiet-gone : (c : Limits) (x : Step) (y : List ℕ) → Holds (Few s 0) (call c s x) → says_out 0 s x
      (replies.Bytes []) ≡ [] → (step_of c s x).reply ≡ replies.Bytes y → Took s x y
  quiet-gone c x y h none e =
      (0, taken_told 0 s c x ∙ ap (says_out 0 s x) (e ∙ ap (λ z. replies.Bytes z) empty) ∙ none ∙ sym empty)
    where
      short : length y ≤ 0
      short = subst (λ (r : Reply). reply_length r ≤ 0) e (few s 0 (call c s x) h)

      empty : y ≡ []
      empty = by_list y short
        where
          by_list : (z : List ℕ) → length z ≤ 0 → z ≡ []
          by_list [] l = refl
          by_list (b ∷ z) l = absurd (omega (arith, l))

  pub bytes_told : (c : Limits) (x : Step) (y : List ℕ) → (step_of c s x).reply ≡ replies.Bytes y → Took s x y
  bytes_told c (steps.Read pid fd n) y e = ready-gone pid fd n y (ready s pid) e
  bytes_told c (steps.Resume pid) y e = resume-gone pid y (living s pid) e
  bytes_told c (steps.List pid path) y e = absurd (list-mute y path (ready s pid) e)
  bytes_told c x y e =
      quiet-gone c x y (quiet s 0 c x (λ pid fd n same. absurd (cc)) (λ pid path same. absurd (cc))
      (λ pid same. absurd (cc))) refl e
