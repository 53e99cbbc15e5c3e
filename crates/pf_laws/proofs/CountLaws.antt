-- Whatever a Write, a Tee or a Splice is told, it gave that many bytes in all.

use Rattle.std.proofs.Common.{◌≡◌, ◌≢◌, ℕ, zero, suc, ◌+◌, ◌-◌, ◌<◌, Bool, true, false, ◌&&◌, ◌||◌, List, ◌∷◌, ◌++◌, length, drop, Option, Some, None, Ok, Err, refl, sym, ap, ◌∙◌, subst, ◌⊎◌, inl, inr, ⊎_elim, arith, nat_eq, nat_le, nat_lt, if◌then◌else◌, length-append, length-take, []}
use Rattle.std.proofs.lemmas.Bool.{eqb-true, eqb-false, eq-eqb}
use Rattle.std.proofs.lemmas.List.Elements.{All-cons, All-nil}
use Rattle.std.specs.Prelude.{Result, is_some, map, filter, All, ⊤}
use Rattle.pf_machine.specs.Refusals.{◌>>=◌, ◌>>◌, refuse_if, or_refuse}
use Rattle.pf_base.specs.Limits.{Limits}
use Rattle.pf_machine.specs.Queue.{Segment, Queue, free_of, taken}
use Rattle.pf_machine.proofs.QueueLaws.{joined-copied}
use Rattle.pf_machine.specs.Progress.{Crossed, moved, is_empty, write_now, cross_now}
use Rattle.pf_machine.specs.Numbered.{at}
use Rattle.pf_base.specs.declared.TheConstants.{PIPE_BUF, MAX_WRITE}
use Rattle.pf_base.specs.declared.errno.Errno.{Errno}
use Rattle.pf_base.specs.declared.errno.Errno.TheVariants.{ESRCH, EBUSY, EINVAL, EAGAIN}
use Rattle.pf_base.specs.declared.progress.Crossing.{Crossing}
use Rattle.pf_base.specs.declared.progress.Crossing.TheVariants.{Tee, Splice}
use Rattle.pf_base.specs.declared.step.Reply.{Reply}
use Rattle.pf_base.specs.declared.step.Reply.TheVariants as replies
use Rattle.pf_base.specs.declared.step.Step.{Step}
use Rattle.pf_base.specs.declared.step.Step.TheVariants as steps
use Rattle.pf_machine.specs.Calls.{Transfer, Reading, Writing, Bringing, Call, Opening, Moving, went_in}
use Rattle.pf_machine.specs.State.{itself, State, Process, End, Outcome, opening, settle, living, ready, writing_end, change_process, waiting, told as outcome}
use Rattle.pf_machine.specs.Counts.{readers, writers}
use Rattle.pf_machine.specs.Transfers.{Tried, tried, try_write, two_ends, try_cross}
use Rattle.pf_machine.specs.Attempts.{Attempt, Finished, Waits, transfer_told, attempt, first, again, nonblocking, transfer, resume}
use Rattle.pf_machine.specs.Sweep.{sweep}
use Rattle.pf_machine.specs.Machine.{call, act, step_of}
use Rattle.pf_machine.proofs.AttemptLaws.{with_written, Says, IsTold, told-is}
use Rattle.pf_machine.proofs.HoldsLaws.{Holds, IsOk, carries, passes}
use Rattle.pf_laws.specs.Streams.{transfer_of, tried_call, in_call, is_parked, call_at, beginning, Gift, gift_of, gifts, given, given_by, joined, Told, told_at, tells, told, told_to, Counts, gives, IsGiving}
use Rattle.pf_laws.proofs.QueueTransfers.{branch}
use Rattle.pf_laws.proofs.TransferLaws.{writes}
use Rattle.pf_laws.proofs.OtherLaws.{Same, Stays, settle-stays, transfer-stays, InCall, in_call-parked, in_call-same, IsNoResumeOf, others-leave}
use Rattle.pf_laws.proofs.PieceLaws.{put_any, member, by-gift_of, by-other, resume-none, step-none, at-change, apart-above, apart-below, began-next, began-kept, joined-member, ended-none, Alone, all-ended, Over, began-earlier, nobody_waits}
use Rattle.pf_laws.proofs.WaitLaws.{CanTry}
use Rattle.pf_laws.proofs.RefusalLaws.{Settled, step-settled, opening-settled}

-- Numbers of bytes

abbrev size : List (List ℕ) → ℕ
size ps = length (joined ps)

size-member : (x : List ℕ) (ps : List (List ℕ)) → size (member x ++ ps) ≡ length x + size ps
size-member x ps = ap (λ (y : List ℕ). length y) (joined-member x ps) ∙ length-append x (joined ps)

-- transfers that give bytes
abbrev Giving : Transfer → Type 0
Giving (Reading fd n) = ⊥
Giving (Writing fd x written) = ⊤
Giving (Bringing c source sink n) = ⊤

-- What a try gives

pub record Gives (s : State Segment ℕ) (t : Tried) : Type 0 where
  pub into : is_some t.into ≡ true
  pub count : length t.bytes ≡ moved t.progress
  pub processes : t.state.processes ≡ s.processes

cross_now-count : (c : Crossing) (source sink : Queue) (writers readers n : ℕ) → let r =
    cross_now c source sink writers readers n in length (taken source (moved r.progress)) ≡ moved r.progress
cross_now-count c source sink writers readers n =
    let P = λ (r : Crossed). length (taken source (moved r.progress)) ≡ moved r.progress in
    branch P (nat_eq n 0) _ _ (λ _. refl) (λ _.
    branch P (nat_eq readers 0) _ _ (λ _. refl) (λ _.
    branch P (is_empty source && nat_eq writers 0) _ _ (λ _. refl) (λ _.
    branch P (is_empty source || nat_eq (free_of sink) 0) _ _ (λ _. refl)
    (λ _. sym (ap (λ (y : List ℕ). length y) (joined-copied (free_of sink) n source.segments))))))

tried-gives : (s : State Segment ℕ) (p : Process ℕ) (call : Transfer) → Giving call → Holds (Gives s) (tried s p call)
tried-gives s p (Reading fd n) g = absurd g
tried-gives s p (Writing fd x d) g =
    carries (Gives s) (writing_end itself s p fd) (λ e. refuse_if (nat_lt MAX_WRITE (length x)) EINVAL >> Ok
    (try_write s e x d)) (λ e.
    passes (Gives s) (refuse_if (nat_lt MAX_WRITE (length x)) EINVAL) (Ok (try_write s e x d))
    (record { into = refl; count = count e; processes = refl }))
  where
    count : (e : End Segment ℕ) → let t = try_write s e x d in length t.bytes ≡ moved t.progress
    count e =
        let whole = nat_le (length x) PIPE_BUF in
        let r = write_now e.pipe.queue (readers itself s e.description.pipe) whole (drop d x) in
        let w = writes e.pipe.queue whole (drop d x) (readers itself s e.description.pipe) in
        omega (arith, w.number, length-take (moved r.progress) (drop d x))
tried-gives s p (Bringing c source sink n) g =
    carries (Gives s) (two_ends s p source sink) (λ e. Ok (try_cross c s e n)) (λ e. record {
      into = refl;
      count = cross_now-count c e.source.pipe.queue e.sink.pipe.queue (writers itself s e.source.description.pipe)
          (readers itself s e.sink.description.pipe) n;
      processes = refl;
    })

-- What is told of it

module _ (s : State Segment ℕ) where
  -- where so many bytes went in all: it is finished and told so, it waits with so much done, or it is refused with none
  abbrev Counted : ℕ → Result (Attempt Segment ℕ) Errno → Type 0
  Counted m (Ok (Finished t reply)) = Counts m reply × (t.processes ≡ s.processes)
  Counted m (Ok (Waits t (Opening n kept))) = ⊥
  Counted m (Ok (Waits t (Moving next))) = Giving next × ((went_in next ≡ m) × (t.processes ≡ s.processes))
  Counted m (Err e) = m ≡ 0

  -- a transfer that gives bytes is told their number
  gives-says : (call : Transfer) (x : List ℕ) (k : ℕ) (reply : Reply) → Giving call → Says call x k reply
      → reply ≡ replies.Num (went_in call + k)
  gives-says (Reading fd n) x k reply g says = absurd g
  gives-says (Writing fd y written) x k reply g says = says
  gives-says (Bringing c source sink n) x k reply g says = says

  giving-on : (call : Transfer) (n : ℕ) → Giving call → Giving (with_written n call)
  giving-on (Reading fd m) n g = g
  giving-on (Writing fd x written) n g = g
  giving-on (Bringing c source sink m) n g = g

  told-counted : (call : Transfer) → Giving call → (t : Tried) → Gives s t
      → Counted (went_in call + length t.bytes) (transfer_told call t t.progress)
  told-counted call g t h = by_told (transfer_told call t t.progress) (told-is call t t.progress)
    where
      m : ℕ
      m = went_in call + length t.bytes

      count : m ≡ went_in call + moved t.progress
      count = omega (arith, h.count)

      stays : (u : State Segment ℕ) → u ≡ t.state → u.processes ≡ s.processes
      stays u e = ap (λ (v : State Segment ℕ). v.processes) e ∙ h.processes

      by_told : (r : Result (Attempt Segment ℕ) Errno) → IsTold call t (moved t.progress) r → Counted m r
      by_told (Ok (Finished u reply)) f =
          (subst (Counts m) (sym (gives-says call t.bytes _ reply g f.says)) count, stays u f.state)
      by_told (Ok (Waits u next)) w =
          subst (λ (c : Call ℕ). Counted m (Ok (Waits u c))) (sym w.is)
          (giving-on call w.written g, (w.count ∙ sym count, stays u w.state))
      by_told (Err e) x = count ∙ x.none

  -- a call that is refused has given nothing before
  attempt-counted : (call : Transfer) → Giving call → (r : Result Tried Errno) → Holds (Gives s) r
      → IsOk r ⊎ (went_in call ≡ 0)
      → Counted (went_in call + length (put_any r)) (r >>= (λ t. transfer_told call t t.progress))
  attempt-counted call g (Ok t) h may =
      subst (λ (x : List ℕ). Counted (went_in call + length x) (transfer_told call t t.progress))
      (sym (ap (λ b. if b then t.bytes else []) h.into)) (told-counted call g t h)
  attempt-counted call g (Err e) h may = ⊎_elim (λ ok. absurd ok) (λ none. omega (arith, none)) may

-- What a step is told

-- a process waits in a call that has given so many bytes
pub record Parks (o : Outcome Segment ℕ) (i m : ℕ) : Type 0 where
  pub next : Transfer
  pub giving : Giving next
  pub count : went_in next ≡ m
  pub waits : InCall o.state i next
  pub parked : o.reply ≡ replies.Parked

-- a call is over, and told that it gave so many
pub record Tells (E : State Segment ℕ → Type 0) (o : Outcome Segment ℕ) (m : ℕ) : Type 0 where
  pub counts : Counts m o.reply
  pub over : E o.state

module _ (s : State Segment ℕ) (i : ℕ) (w : Process ℕ) (here : at s.processes i ≡ Some w) where
  still : (t : State Segment ℕ) → t.processes ≡ s.processes → at t.processes i ≡ Some w
  still t e = ap (λ ps. at ps i) e ∙ here

  parks : (t : State Segment ℕ) (next : Transfer) (m : ℕ) → Giving next → went_in next ≡ m
      → t.processes ≡ s.processes
      → Parks (outcome (change_process (waiting (Some (Moving next))) t (suc i)) replies.Parked) i m
  parks t next m g count e = record {
    next = next;
    giving = g;
    count = count;
    waits = record {
      who = waiting (Some (Moving next)) w;
      stands = at-change
          (waiting (Some (Moving next))) t.processes i w (still t e);
      waits = refl;
    };
    parked = refl;
  }

  ended : (t : State Segment ℕ) → t.processes ≡ s.processes → is_parked (change_process (waiting None) t (suc i))
      (suc i) ≡ false
  ended t e = ap in_call (at-change (waiting None) t.processes i w (still t e))

  over : (t : State Segment ℕ) → t.processes ≡ s.processes → Over s t i
  over t e z = sym (ap in_call (still t e ∙ sym here)) ∙ z

  again-tells : (m : ℕ) (r : Result (Attempt Segment ℕ) Errno) → Counted s m r → Parks (again s (suc i) r) i m ⊎ Tells
      (λ t. is_parked t (suc i) ≡ false) (again s (suc i) r) m
  again-tells m (Ok (Finished t reply)) h = inr (record { counts = h.0; over = ended t h.1 })
  again-tells m (Ok (Waits t (Opening n kept))) h = absurd h
  again-tells m (Ok (Waits t (Moving next))) h = inl (parks t next m h.0 h.1.0 h.1.1)
  again-tells m (Err e) h = inr (record { counts = h; over = ended s refl })

  first-tells : (b : Bool) (m : ℕ) (r : Result (Attempt Segment ℕ) Errno) → Counted s m r
      → Parks (settle s (r >>= first (suc i) b)) i m ⊎ Tells (λ t. Over s t i) (settle s (r >>= first (suc i) b)) m
  first-tells b m (Ok (Finished t reply)) h = inr (record { counts = h.0; over = over t h.1 })
  first-tells b m (Ok (Waits t (Opening n kept))) h = absurd h
  first-tells false m (Ok (Waits t (Moving next))) h = inl (parks t next m h.0 h.1.0 h.1.1)
  first-tells true m (Ok (Waits t (Moving next))) h = inr (by_test (nat_eq (went_in next) 0) refl)
    where
      by_test : (z : Bool) → nat_eq (went_in next) 0 ≡ z → Tells (λ u. Over s u i)
          (settle s (if z then Err EAGAIN else Ok (outcome t (replies.Num (went_in next))))) m
      by_test true f = record { counts = omega (arith, h.1.0, eqb-true (went_in next) 0 f); over = λ z. z }
      by_test false f = record { counts = sym h.1.0; over = over t h.1.1 }
  first-tells b m (Err e) h = inr (record { counts = h; over = λ z. z })

-- the Resume of a process that waits
module _ (s : State Segment ℕ) (i : ℕ) (call : Transfer) (g : Giving call) (w : InCall s i call)
    (may : IsOk (tried s w.who call)) where
  -- what comes of it
  abbrev Came : Result (Outcome Segment ℕ) Errno → Result Tried Errno → Type 0
  Came r q =
      let m = went_in call + length (put_any q) in
      Parks (settle s r) i m ⊎ Tells (λ t. is_parked t (suc i) ≡ false) (settle s r) m

  resume-parked : (o : Option (Call ℕ)) → Some (Moving call) ≡ o
      → Came (or_refuse EINVAL o >>= (λ call. Ok (again s (suc i) (attempt s (suc i) w.who call))))
      (or_refuse EINVAL o >>= tried_call s w.who)
  resume-parked o e =
      subst (λ (o : Option (Call ℕ)). Came
      (or_refuse EINVAL o >>= (λ call. Ok (again s (suc i) (attempt s (suc i) w.who call))))
      (or_refuse EINVAL o >>= tried_call s w.who)) e
      (again-tells s i w.who w.stands (went_in call + length (put_any (tried s w.who call)))
      (attempt s (suc i) w.who (Moving call))
      (attempt-counted s call g (tried s w.who call) (tried-gives s w.who call g) (inl may)))

  resume-came : Came (living s (suc i) >>= (λ p. resume s (suc i) p))
      (living s (suc i) >>= (λ p. or_refuse EINVAL p.parked >>= tried_call s p))
  resume-came =
      subst (λ (o : Option (Process ℕ)). Came (or_refuse ESRCH o >>= (λ p. resume s (suc i) p))
      (or_refuse ESRCH o >>= (λ p. or_refuse EINVAL p.parked >>= tried_call s p))) (sym w.stands)
      (resume-parked w.who.parked (sym w.waits))

-- a step of its own
module _ (s : State Segment ℕ) (i : ℕ) (flag : Bool) (call : Transfer) (g : Giving call)
    (none : went_in call ≡ 0) where
  abbrev Begun : Result (Outcome Segment ℕ) Errno → Result Tried Errno → Type 0
  Begun r q =
      let m = length (put_any q) in
      (Parks (settle s r) i m × (is_parked s (suc i) ≡ false)) ⊎ Tells (λ t. Over s t i) (settle s r) m

  refused : (e : Errno) → Begun (Err e) (Err e)
  refused e = inr (record { counts = refl; over = λ z. z })

  begun-ready : (w : Process ℕ) (b : Bool) → at s.processes i ≡ Some w → is_some w.parked ≡ b
      → Begun ((refuse_if b EBUSY >> Ok w) >>= (λ p. transfer s (suc i) p flag call))
      ((refuse_if b EBUSY >> Ok w) >>= (λ p. tried s p call))
  begun-ready w true here e = refused EBUSY
  begun-ready w false here e =
      let q = tried s w call in
      let count : went_in call + length (put_any q) ≡ length (put_any q) = omega (arith, none) in
      ⊎_elim (λ parks. inl (parks, ap in_call here ∙ e)) (λ tells. inr tells)
      (first-tells s i w here (flag || nonblocking s w call) (length (put_any q)) (attempt s (suc i) w (Moving call))
      (subst (λ m. Counted s m (attempt s (suc i) w (Moving call))) count
      (attempt-counted s call g q (tried-gives s w call g) (inr none))))

  begun : Begun (ready s (suc i) >>= (λ p. transfer s (suc i) p flag call)) (ready s (suc i) >>= (λ p. tried s p call))
  begun = by_process (at s.processes i) refl
    where
      by_process : (o : Option (Process ℕ)) → at s.processes i ≡ o
          → Begun ((or_refuse ESRCH o >>= (λ p. refuse_if (is_some p.parked) EBUSY >> Ok p)) >>=
          (λ p. transfer s (suc i) p flag call))
          ((or_refuse ESRCH o >>= (λ p. refuse_if (is_some p.parked) EBUSY >> Ok p)) >>= (λ p. tried s p call))
      by_process None e = refused ESRCH
      by_process (Some w) e = begun-ready w (is_some w.parked) e refl

-- Lists of replies

told-same : (k : ℕ) (y : Reply) (ts : List Told) → told_to k (record { call = k; reply = y } ∷ ts) ≡ y ∷ told_to k ts
told-same k y ts =
    ap (λ b. map (λ t. t.reply) (if b then record { call = k; reply = y } ∷ filter
    (λ t. nat_eq t.call k) ts else filter (λ t. nat_eq t.call k) ts)) (eq-eqb k k refl)

told-other : (k j : ℕ) (y : Reply) (ts : List Told) → nat_eq j k ≡ false
    → told_to k (record { call = j; reply = y } ∷ ts) ≡ told_to k ts
told-other k j y ts apart =
    ap (λ b. map (λ t. t.reply) (if b then record { call = j; reply = y } ∷ filter
    (λ t. nat_eq t.call k) ts else filter (λ t. nat_eq t.call k) ts)) apart

told-apart : (s : State Segment ℕ) (began : ℕ → ℕ) (k i : ℕ) (y : Step) → nat_eq i k ≡ false
    → ((q : ℕ) → is_parked s q ≡ true → nat_eq (began q) k ≡ false) → nat_eq (told_at s began i y) k ≡ false
told-apart s began k i (steps.Resume q) apart h = began-next s began k i q apart (h q)
told-apart s began k i y apart h = apart

-- a call in which nobody waits any more is told nothing
ended-untold : (c : Limits) (xs : List Step) (s : State Segment ℕ) (began : ℕ → ℕ) (k i : ℕ) → k < i
    → ((q : ℕ) → is_parked s q ≡ true → nat_eq (began q) k ≡ false) → told_to k (tells c s began i xs) ≡ []
ended-untold c [] s began k i l h = refl
ended-untold c (y ∷ ys) s began k i l h =
    let apart : nat_eq i k ≡ false = apart-above i k l in
    told-other k (told_at s began i y) (step_of c s y).reply (tells c (step_of c s y).state (beginning s began i)
    (suc i) ys) (told-apart s began k i y apart h)
    ∙ ended-untold c ys (step_of c s y).state (beginning s began i) k (suc i) (omega (arith, l))
    (λ q t. began-next s began k i q apart (h q))

-- Pieces and replies

-- where so many bytes went before, each reply counts them and those of the pieces
abbrev Count : ℕ → List (List ℕ) → List Reply → Type 0
Count d ps ys = All (Counts (d + size ps)) ys

same-count : (d : ℕ) (ps qs : List (List ℕ)) (ys zs : List Reply) → ps ≡ qs → ys ≡ zs → Count d qs zs → Count d ps ys
same-count d ps qs ys zs e f h =
    subst (λ (rs : List (List ℕ)). Count d rs ys) (sym e) (subst (λ (ts : List Reply). Count d qs ts) (sym f) h)

after-parked : (d : ℕ) (x : List ℕ) (ps : List (List ℕ)) (y : Reply) (ys : List Reply) → y ≡ replies.Parked
    → Count (d + length x) ps ys → Count d (member x ++ ps) (y ∷ ys)
after-parked d x ps y ys e h =
    let same : d + length x + size ps ≡ d + size (member x ++ ps) = omega (arith, size-member x ps) in
    All-cons (Counts (d + size (member x ++ ps))) y ys (subst (λ (z : Reply). Counts (d + size (member x ++ ps)) z)
    (sym e) tt) (subst (λ m. All (Counts m) ys) same h)

after-told : (d : ℕ) (x : List ℕ) (ps : List (List ℕ)) (y : Reply) (ys : List Reply) → ps ≡ [] → ys ≡ []
    → Counts (d + length x) y → Count d (member x ++ ps) (y ∷ ys)
after-told d x ps y ys e f h =
    let none : size ps ≡ 0 = ap size e in
    let same : d + length x ≡ d + size (member x ++ ps) = omega (arith, size-member x ps, none) in
    All-cons (Counts (d + size (member x ++ ps))) y ys (subst (λ m. Counts m y) same h)
    (subst (λ (ts : List Reply). All (Counts (d + size (member x ++ ps))) ts) (sym f)
    (All-nil (Counts (d + size (member x ++ ps)))))

-- While a process waits

mine : (j : ℕ) (y : Step) → (y ≡ steps.Resume (suc j)) ⊎ IsNoResumeOf (suc j) y
mine j (steps.Resume q) =
    elim (nat_eq q (suc j)) as (λ b. nat_eq q (suc j) ≡ b → (steps.Resume q ≡ steps.Resume (suc j)) ⊎
    (nat_eq q (suc j) ≡ false)) [
      | true ↦ λ e. inl (ap (λ n. steps.Resume n) (eqb-true q (suc j) e))
      | false ↦ λ e. inr e
    ] refl
mine j y = inr tt

other-gives : (s : State Segment ℕ) (began : ℕ → ℕ) (k i j : ℕ) (y : Step) (gs : List Gift) → nat_eq i k ≡ false
    → Alone s began k j → IsNoResumeOf (suc j) y → given_by k (gift_of (call_at began i y) (transfer_of s y)
    ++ gs) ≡ given_by k gs
other-gives s began k i j (steps.Resume q) gs apart alone h = resume-none s began k q gs (alone q h)
other-gives s began k i j y gs apart alone h = by-other k i (transfer_of s y) gs apart

other-told : (s : State Segment ℕ) (began : ℕ → ℕ) (k i j : ℕ) (y : Step) → nat_eq i k ≡ false → Alone s began k j
    → IsNoResumeOf (suc j) y → nat_eq (told_at s began i y) k ≡ false
other-told s began k i j (steps.Resume q) apart alone h = began-next s began k i q apart (alone q h)
other-told s began k i j y apart alone h = apart

-- one step, where so much is known of the later ones
module _ (c : Limits) (ys : List Step) (s : State Segment ℕ) (is : Settled s) (began : ℕ → ℕ) (k i j : ℕ) (l : k < i)
    (call : Transfer) (g : Giving call) (w : InCall s j call) (here : began (suc j) ≡ k)
    (alone : Alone s began k j) where
  abbrev after : Step → State Segment ℕ
  after y = (step_of c s y).state

  abbrev next : ℕ → ℕ
  next = beginning s began i

  abbrev pieces : Step → List (List ℕ)
  pieces y = given_by k (gifts c (after y) next (suc i) ys)

  abbrev answers : Step → List Reply
  answers y = told_to k (tells c (after y) next (suc i) ys)

  -- what comes later counts, as long as the process waits on
  abbrev Later : Step → Type 0
  Later y = (more : Transfer) → Giving more → InCall (after y) j more → Count (went_in more) (pieces y)
      (answers y)

  abbrev Now : Step → Type 0
  Now y = Count (went_in call) (given_by k (gifts c s began i (y ∷ ys)))
      (told_to k (tells c s began i (y ∷ ys)))

  apart : nat_eq i k ≡ false
  apart = apart-above i k l

  no-pieces : (y : Step) → is_parked (after y) (suc j) ≡ false → pieces y ≡ []
  no-pieces y e =
      ended-none c ys (after y) next k (suc i) (omega (arith, l)) (all-ended s (after y) began k i j apart alone e)

  no-answers : (y : Step) → is_parked (after y) (suc j) ≡ false → answers y ≡ []
  no-answers y e = ended-untold c ys (after y) next k (suc i) (omega (arith, l))
      (all-ended s (after y) began k i j apart alone e)

  -- its own Resume
  own-now : Later (steps.Resume (suc j)) → Now (steps.Resume (suc j))
  own-now later =
      same-count d (given_by k (gifts c s began i (y ∷ ys))) (member x ++ pieces y)
      (told_to k (tells c s began i (y ∷ ys))) (o.reply ∷ answers y) given-here told-here
      (⊎_elim
      (λ p. after-parked d x (pieces y) o.reply (answers y) p.parked
      (subst (λ m. Count m (pieces y) (answers y)) p.count
      (later p.next p.giving (in_call-same (after y) p.waits refl))))
      (λ e. after-told d x (pieces y) o.reply (answers y) (no-pieces y e.over) (no-answers y e.over) e.counts)
      (resume-came s j call g w (subst (λ (o : Option (Call ℕ)). CanTry s w.who o) w.waits
      (is.can_try.each j w.who w.stands))))
    where
      y : Step
      y = steps.Resume (suc j)

      d : ℕ
      d = went_in call

      x : List ℕ
      x = put_any (transfer_of s y)

      o : Outcome Segment ℕ
      o = act c s y

      given-here : given_by k (gifts c s began i (y ∷ ys)) ≡ member x ++ pieces y
      given-here = ap (λ m. given_by k (gift_of m (transfer_of s y) ++ gifts c (after y) next (suc i) ys)) here
          ∙ by-gift_of k (transfer_of s y) (gifts c (after y) next (suc i) ys)

      told-here : told_to k (tells c s began i (y ∷ ys)) ≡ o.reply ∷ answers y
      told-here =
          ap (λ m. told_to k (record { call = m; reply = o.reply } ∷ tells c (after y) next (suc i) ys))
          (began-kept s began i (suc j) (in_call-parked w) ∙ here)
          ∙ told-same k o.reply (tells c (after y) next (suc i) ys)

  -- any other step
  other-now : (y : Step) → IsNoResumeOf (suc j) y → Later y → Now y
  other-now y h later =
      same-count (went_in call) (given_by k (gifts c s began i (y ∷ ys))) (pieces y)
      (told_to k (tells c s began i (y ∷ ys))) (answers y)
      (other-gives s began k i j y (gifts c (after y) next (suc i) ys) apart alone h)
      (told-other k (told_at s began i y) (step_of c s y).reply (tells c (after y) next (suc i) ys)
      (other-told s began k i j y apart alone h))
      (⊎_elim
      (λ stays. later call g (in_call-same (after y) w stays.is))
      (λ gone. subst (λ (zs : List Reply). All (Counts (went_in call + size (pieces y))) zs)
      (sym (no-answers y gone)) (All-nil (Counts (went_in call + size (pieces y)))))
      (others-leave w c y h))

  now : (y : Step) → Later y → Now y
  now y later = by_kind (mine j y)
    where
      by_kind : (y ≡ steps.Resume (suc j)) ⊎ IsNoResumeOf (suc j) y → Now y
      by_kind (inl e) =
          let own : Later y → Now y = subst (λ (z : Step). Later z → Now z) (sym e) own-now in
          own later
      by_kind (inr h) = other-now y h later

later-count : (c : Limits) (xs : List Step) (s : State Segment ℕ) (began : ℕ → ℕ) (k i j : ℕ) (call : Transfer) → k < i
    → Settled s → Giving call → InCall s j call → began (suc j) ≡ k → Alone s began k j
    → Count (went_in call) (given_by k (gifts c s began i xs)) (told_to k (tells c s began i xs))
later-count c [] s began k i j call l is g w here alone = All-nil (Counts (went_in call + size []))
later-count c (y ∷ ys) s began k i j call l is g w here alone =
    now c ys s is began k i j l call g w here alone y
    (λ more h v. later-count c ys (step_of c s y).state (beginning s began i) k (suc i) j more (omega (arith, l))
    (step-settled s is c y) h v
    (began-kept s began i (suc j) (in_call-parked w) ∙ here)
    (λ q other p. began-next s began k i q (apart-above i k l) (alone q other)))

-- Where a call begins

-- a call that begins at place i, of a process that isn't there or of one in a place
module _ (c : Limits) (s : State Segment ℕ) (began : ℕ → ℕ) (i : ℕ) (ys : List Step)
    (before : (q : ℕ) → is_parked s q ≡ true → nat_eq (began q) i ≡ false) (flag : Bool) (call : Transfer)
    (g : Giving call) (none : went_in call ≡ 0) where
  abbrev came : ℕ → Outcome Segment ℕ
  came pid = settle s (ready s pid >>= (λ p. transfer s pid p flag call))

  abbrev trial : ℕ → Result Tried Errno
  trial pid = ready s pid >>= (λ p. tried s p call)

  abbrev left : ℕ → State Segment ℕ
  left pid = sweep itself (came pid).state

  abbrev since : ℕ → ℕ
  since = beginning s began i

  abbrev pieces-since : ℕ → List (List ℕ)
  pieces-since pid = given_by i (gifts c (left pid) since (suc i) ys)

  abbrev answers-since : ℕ → List Reply
  answers-since pid = told_to i (tells c (left pid) since (suc i) ys)

  -- who waited before waits in another call
  began-before : (q : ℕ) → is_parked s q ≡ true → nat_eq (since q) i ≡ false
  began-before q t = ap (λ m. nat_eq m i) (began-kept s began i q t) ∙ before q t

  -- it leaves who else waits
  unmoved-by : (j q : ℕ) → nat_eq q (suc j) ≡ false → is_parked (left (suc j)) q ≡ true → is_parked s q ≡ true
  unmoved-by j zero other t = t
  unmoved-by j (suc m) other t =
      let away : m ≢ suc j - 1 = λ same. eqb-false (suc m) (suc j) other (omega (arith, same)) in
      let stays : Same s m (came (suc j)).state.processes =
      settle-stays s m (ready s (suc j) >>= (λ p. transfer s (suc j) p flag call))
      (carries (Stays s m) (ready s (suc j)) (λ p. transfer s (suc j) p flag call)
      (λ p. transfer-stays s m (suc j) away p flag call)) in
      sym (ap in_call stays.is) ∙ t

  alone-since : (j : ℕ) → Alone (left (suc j)) since i j
  alone-since j q other t = began-before q (unmoved-by j q other t)

  -- where it is over nobody waits in it
  over-since : (j : ℕ) → Over s (left (suc j)) j → (q : ℕ) → is_parked (left (suc j)) q ≡ true
      → nat_eq (since q) i ≡ false
  over-since j over q t = elim (nat_eq q (suc j)) as (λ b. nat_eq q (suc j) ≡ b → nat_eq (since q) i ≡ false) [
    | true ↦ λ same.
        let here : is_parked s q ≡ true =
        ap (is_parked s) (eqb-true q (suc j) same)
        ∙ over (ap (is_parked (left (suc j))) (sym (eqb-true q (suc j) same)) ∙ t) in
        began-before q here
    | false ↦ λ other. alone-since j q other t
  ] refl

  begun-count : (pid : ℕ) → Settled (left pid)
      → Count 0 (given_by i (gift_of i (trial pid) ++ gifts c (left pid) since (suc i) ys))
      (told_to i (record { call = i; reply = (came pid).reply } ∷ tells c (left pid) since (suc i) ys))
  begun-count pid is =
      same-count 0 (given_by i (gift_of i (trial pid) ++ gifts c (left pid) since (suc i) ys))
      (member (put_any (trial pid)) ++ pieces-since pid)
      (told_to i (record { call = i; reply = (came pid).reply } ∷ tells c (left pid) since (suc i) ys))
      ((came pid).reply ∷ answers-since pid)
      (by-gift_of i (trial pid) (gifts c (left pid) since (suc i) ys))
      (told-same i (came pid).reply (tells c (left pid) since (suc i) ys)) (by_pid pid is)
    where
      over-count : (pid : ℕ) → ((q : ℕ) → is_parked (left pid) q ≡ true → nat_eq (since q) i ≡ false)
          → Counts (length (put_any (trial pid))) (came pid).reply
          → Count 0 (member (put_any (trial pid)) ++ pieces-since pid) ((came pid).reply ∷ answers-since pid)
      over-count pid over counts =
          let m = length (put_any (trial pid)) in
          let same : m ≡ 0 + m = omega arith in
          after-told 0 (put_any (trial pid)) (pieces-since pid) (came pid).reply (answers-since pid)
          (ended-none c ys (left pid) since i (suc i) (omega arith) over)
          (ended-untold c ys (left pid) since i (suc i) (omega arith) over)
          (subst (λ n. Counts n (came pid).reply) same counts)

      by_pid : (pid : ℕ) → Settled (left pid) → Count 0 (member (put_any (trial pid)) ++ pieces-since pid)
          ((came pid).reply ∷ answers-since pid)
      by_pid zero is = over-count zero (λ q t. began-before q t) refl
      by_pid (suc j) is = ⊎_elim
          (λ p.
          let q = p.0 in
          let same : went_in q.next ≡ 0 + length (put_any (trial (suc j))) = omega (arith, q.count) in
          after-parked 0 (put_any (trial (suc j))) (pieces-since (suc j)) (came (suc j)).reply
          (answers-since (suc j)) q.parked
          (subst (λ m. Count m (pieces-since (suc j)) (answers-since (suc j))) same
          (later-count c ys (left (suc j)) since i (suc i) j q.next (omega arith) is q.giving
          (in_call-same (left (suc j)) q.waits refl) (ap (λ b. if b then began (suc j) else i) p.1)
          (alone-since j))))
          (λ e. over-count (suc j) (over-since j e.over) e.counts)
          (begun s j flag call g none)

-- Every place of a run

module _ (c : Limits) where
  place-count : (x : Step) → gives x ≡ true → (s : State Segment ℕ) (began : ℕ → ℕ) (i : ℕ) (ys : List Step) → Settled s
      → ((q : ℕ) → is_parked s q ≡ true → nat_eq (began q) i ≡ false)
      → Count 0 (given_by i (gifts c s began i (x ∷ ys))) (told_to i (tells c s began i (x ∷ ys)))
  place-count (steps.Write pid fd x) g s began i ys is before =
      begun-count c s began i ys before false (Writing fd x 0) tt refl pid (step-settled s is c (steps.Write pid fd x))
  place-count (steps.Tee pid source sink n nonblock) g s began i ys is before =
      begun-count c s began i ys before nonblock (Bringing Tee source sink n) tt refl pid
      (step-settled s is c (steps.Tee pid source sink n nonblock))
  place-count (steps.Splice pid source sink n nonblock) g s began i ys is before =
      begun-count c s began i ys before nonblock (Bringing Splice source sink n) tt refl pid
      (step-settled s is c (steps.Splice pid source sink n nonblock))
  place-count x g s began i ys is before = absurd (cc)

  run-count : (x : Step) → gives x ≡ true → (xs : List Step) (s : State Segment ℕ) (began : ℕ → ℕ) (i m k : ℕ)
      → k ≡ i + m
      → at (map Some xs) m ≡ Some x → Settled s → ((q : ℕ) → is_parked s q ≡ true → began q < i)
      → Count 0 (given_by k (gifts c s began i xs)) (told_to k (tells c s began i xs))
  run-count x g [] s began i m k e there is earlier = absurd (cc)
  run-count x g (y ∷ ys) s began i zero k e there is earlier =
      let place : i ≡ k = omega (arith, e) in
      let step : x ≡ y = cc in
      subst (λ z. Count 0 (given_by k (gifts c s began i (z ∷ ys))) (told_to k (tells c s began i (z ∷ ys)))) step
      (subst (λ n. Count 0 (given_by n (gifts c s began i (x ∷ ys))) (told_to n (tells c s began i (x ∷ ys)))) place
      (place-count x g s began i ys is (λ q t. apart-below (began q) i (earlier q t))))
  run-count x g (y ∷ ys) s began i (suc m) k e there is earlier =
      let below : i < k = omega (arith, e) in
      let away : nat_eq i k ≡ false = apart-below i k below in
      let others : (q : ℕ) → is_parked s q ≡ true → nat_eq (began q) k ≡ false =
      λ q t. apart-below (began q) k (omega (arith, earlier q t, below)) in
      let t = (step_of c s y).state in
      let since = beginning s began i in
      same-count 0 (given_by k (gifts c s began i (y ∷ ys))) (given_by k (gifts c t since (suc i) ys))
      (told_to k (tells c s began i (y ∷ ys))) (told_to k (tells c t since (suc i) ys))
      (step-none s began k i y (gifts c t since (suc i) ys) away others)
      (told-other k (told_at s began i y) (step_of c s y).reply (tells c t since (suc i) ys)
      (told-apart s began k i y away others))
      (run-count x g ys t since (suc i) m k (omega (arith, e)) there (step-settled s is c y)
      (λ q p. began-earlier s began i earlier q))

pub given_told : (c : Limits) (xs : List Step) (k : ℕ) → IsGiving xs k
    → All (Counts (length (joined (given_by k (given c xs))))) (told_to k (told c xs))
given_told c xs k g =
    let m = length (joined (given_by k (given c xs))) in
    let same : 0 + m ≡ m = omega arith in
    subst (λ n. All (Counts n) (told_to k (told c xs))) same (run-count c g.0 g.1.1 xs opening (λ pid. 0) 0 k k
    (omega arith) g.1.0 opening-settled nobody_waits)
