-- The pieces that a Write puts in: one after the other they are the front of its bytes, and of at most PIPE_BUF bytes
-- there is one piece, all of them, or none.

use Rattle.std.proofs.Common.{◌≡◌, ◌≢◌, ℕ, zero, suc, ◌+◌, ◌-◌, ◌<◌, ◌≤◌, Bool, true, false, ◌||◌, List, [], ◌∷◌, ◌++◌, length, take, drop, Option, Some, None, Ok, Err, refl, sym, ap, ◌∙◌, subst, ◌⊎◌, inl, inr, ⊎_elim, arith, nat_eq, nat_le, nat_lt, if◌then◌else◌, append-nil, length-drop}
use Rattle.std.proofs.lemmas.Bool.{eqb-true, eqb-false, eq-eqb, le-leb}
use Rattle.std.proofs.lemmas.List.{take_all, drop-drop}
use Rattle.std.proofs.Math.Seq.{take-add}
use Rattle.std.specs.Prelude.{Result, is_some}
use Rattle.std.specs.Prelude.{map, filter, replicate}
use Rattle.std.specs.Option.{option_map}
use Rattle.pf_machine.specs.Refusals.{◌>>=◌, ◌>>◌, refuse_if, or_refuse}
use Rattle.pf_base.specs.Limits.{Limits}
use Rattle.pf_machine.specs.Queue.{Segment, Queue, room_of}
use Rattle.pf_machine.specs.Progress.{Passed, moved, portion, write_now}
use Rattle.pf_machine.specs.Numbered.{at, change_at}
use Rattle.pf_machine.proofs.NumberedLaws.{at-put_same, at_within}
use Rattle.pf_base.specs.declared.TheConstants.{PIPE_BUF, MAX_WRITE, MAX_PROCESSES}
use Rattle.pf_base.specs.declared.errno.Errno.{Errno}
use Rattle.pf_base.specs.declared.errno.Errno.TheVariants.{ESRCH, EBUSY, EINVAL, EAGAIN, EPIPE}
use Rattle.pf_base.specs.declared.progress.Progress.{Progress}
use Rattle.pf_base.specs.declared.progress.Progress.TheVariants.{Moved, WouldBlock, EndOfFile, NoReader}
use Rattle.pf_machine.specs.Calls.{Writing, Call, Moving}
use Rattle.pf_machine.specs.State.{itself, State, Process, End, Outcome, settle, vacant, opening, living, ready, writing_end, change_process, waiting, told}
use Rattle.pf_machine.specs.Counts.{readers}
use Rattle.pf_machine.specs.Transfers.{Tried, tried, try_write}
use Rattle.pf_machine.specs.Attempts.{Attempt, Finished, Waits, write_told, transfer_told, attempt, first, again, nonblocking, transfer, resume}
use Rattle.pf_machine.specs.Machine.{call, act, step_of}
use Rattle.pf_laws.specs.Streams.{transfer_of, tried_call, in_call, is_parked, call_at, beginning, Gift, gift, gift_into, gift_of, gifts, given, given_by, joined, IsInOrder, IsWhole, IsWrite}
use Rattle.pf_base.specs.declared.step.Reply.TheVariants as replies
use Rattle.pf_base.specs.declared.step.Step.{Step}
use Rattle.pf_base.specs.declared.step.Step.TheVariants as steps
use Rattle.pf_laws.proofs.QueueTransfers.{branch}
use Rattle.pf_machine.proofs.AttemptLaws.{IsTold, told-is}
use Rattle.pf_machine.proofs.HoldsLaws.{Holds, carries, passes}
use Rattle.pf_laws.proofs.OtherLaws.{Same, Stays, settle-stays, transfer-stays, InCall, in_call-parked, in_call-same, Left, others-leave}

-- Pieces

-- what a transfer put into whatever pipe
abbrev pub put_any : Result Tried Errno → List ℕ
put_any (Err e) = []
put_any (Ok t) = if is_some t.into then t.bytes else []

-- some bytes are one piece, none are no piece
abbrev pub member : List ℕ → List (List ℕ)
member [] = []
member (b ∷ x) = (b ∷ x) ∷ []

-- what a Resume of a process puts in
abbrev own : State Segment ℕ → ℕ → Step → List (List ℕ)
own s pid (steps.Resume q) = if nat_eq q pid then member (put_any (transfer_of s (steps.Resume q))) else []
own s pid _ = []

by-same : (k n : ℕ) (x : List ℕ) (gs : List Gift) → given_by k (gift k n x ++ gs) ≡ member x ++ given_by k gs
by-same k n [] gs = refl
by-same k n (b ∷ x) gs = ap (λ t. map (λ g. g.bytes) (if t then record { call = k; pipe = n; bytes = b ∷ x } ∷ filter (λ g. nat_eq g.call k) gs else filter (λ g. nat_eq g.call k) gs)) (eq-eqb k k refl)

pub by-gift_of : (k : ℕ) (r : Result Tried Errno) (gs : List Gift) → given_by k (gift_of k r ++ gs) ≡ member
    (put_any r) ++ given_by k gs
by-gift_of k (Err e) gs = refl
by-gift_of k (Ok t) gs = by_pipe t.into
  where
    by_pipe : (o : Option ℕ) → given_by k (gift_into k t.bytes o ++ gs) ≡ member (if is_some o then t.bytes else []) ++ given_by k gs
    by_pipe None = refl
    by_pipe (Some n) = by-same k n t.bytes gs

pub by-other : (k j : ℕ) (r : Result Tried Errno) (gs : List Gift) → nat_eq j k ≡ false
    → given_by k (gift_of j r ++ gs) ≡ given_by k gs
by-other k j (Err e) gs apart = refl
by-other k j (Ok t) gs apart = by_pipe t.into
  where
    by_bytes : (n : ℕ) (x : List ℕ) → given_by k (gift j n x ++ gs) ≡ given_by k gs
    by_bytes n [] = refl
    by_bytes n (b ∷ x) = ap (λ t. map (λ g. g.bytes) (if t then record { call = j; pipe = n; bytes = b ∷ x } ∷ filter (λ g. nat_eq g.call k) gs else filter (λ g. nat_eq g.call k) gs)) apart

    by_pipe : (o : Option ℕ) → given_by k (gift_into j t.bytes o ++ gs) ≡ given_by k gs
    by_pipe None = refl
    by_pipe (Some n) = by_bytes n t.bytes

-- who waits in no call gives nothing by Resume
pub resume-none : (s : State Segment ℕ) (began : ℕ → ℕ) (k q : ℕ) (gs : List Gift)
    → (is_parked s q ≡ true → nat_eq (began q) k ≡ false)
    → given_by k (gift_of (began q) (transfer_of s (steps.Resume q)) ++ gs) ≡ given_by k gs
resume-none s began k zero gs h = refl
resume-none s began k (suc j) gs h = by_process (at s.processes j) refl
  where
    by_call : (p : Process ℕ) (o : Option (Call ℕ)) → (is_some o ≡ true → nat_eq (began (suc j)) k ≡ false) → given_by k (gift_of (began (suc j)) (or_refuse EINVAL o >>= tried_call s p) ++ gs) ≡ given_by k gs
    by_call p None h = refl
    by_call p (Some call) h = by-other k (began (suc j)) (tried_call s p call) gs (h refl)

    by_process : (o : Option (Process ℕ)) → at s.processes j ≡ o → given_by k (gift_of (began (suc j)) (or_refuse ESRCH o >>= (λ p. or_refuse EINVAL p.parked >>= tried_call s p)) ++ gs) ≡ given_by k gs
    by_process None e = refl
    by_process (Some p) e = by_call p p.parked (λ t. h (ap in_call e ∙ t))

-- a step of another call gives nothing to this one
pub step-none : (s : State Segment ℕ) (began : ℕ → ℕ) (k i : ℕ) (y : Step) (gs : List Gift) → nat_eq i k ≡ false
    → ((q : ℕ) → is_parked s q ≡ true → nat_eq (began q) k ≡ false)
    → given_by k (gift_of (call_at began i y) (transfer_of s y) ++ gs) ≡ given_by k gs
step-none s began k i (steps.Resume q) gs apart h = resume-none s began k q gs (h q)
step-none s began k i y gs apart h = by-other k i (transfer_of s y) gs apart

-- nor does one of another process to the call of a process that waits
own-step : (s : State Segment ℕ) (began : ℕ → ℕ) (k i j : ℕ) (y : Step) (gs : List Gift) → nat_eq i k ≡ false → began (suc j) ≡ k → ((q : ℕ) → nat_eq q (suc j) ≡ false → is_parked s q ≡ true → nat_eq (began q) k ≡ false)
    → given_by k (gift_of (call_at began i y) (transfer_of s y) ++ gs) ≡ own s (suc j) y ++ given_by k gs
own-step s began k i j (steps.Resume q) gs apart here h = elim (nat_eq q (suc j)) as (λ b. nat_eq q (suc j) ≡ b → given_by k (gift_of (began q) (transfer_of s (steps.Resume q)) ++ gs) ≡ (if b then member (put_any (transfer_of s (steps.Resume q))) else []) ++ given_by k gs) [
  | true ↦ λ e.
      let same : began q ≡ k = ap began (eqb-true q (suc j) e) ∙ here in
      ap (λ m. given_by k (gift_of m (transfer_of s (steps.Resume q)) ++ gs)) same ∙ by-gift_of k (transfer_of s (steps.Resume q)) gs
  | false ↦ λ e. resume-none s began k q gs (h q e)
] refl
own-step s began k i j y gs apart here h = by-other k i (transfer_of s y) gs apart

-- Waiting

-- the process in place i waits in a write of which so much is done
abbrev pub Waiting : State Segment ℕ → ℕ → ℕ → List ℕ → ℕ → Type 0
Waiting s i fd x d = InCall s i (Writing fd x d)

-- where a step leaves a write that waits: so many of its bytes more went in, and it waits on or has ended
pub record Goes (t : State Segment ℕ) (i fd : ℕ) (x : List ℕ) (d : ℕ) (ps : List (List ℕ)) : Type 0 where
  pub more : ℕ
  pub put : ps ≡ member (take more (drop d x))
  pub next : Waiting t i fd x (d + more) ⊎ (is_parked t (suc i) ≡ false)
  pub whole : length x ≤ PIPE_BUF → d ≡ 0 → (more ≡ 0) ⊎ ((more ≡ length x) × (is_parked t (suc i) ≡ false))

goes-nowhere : {s : State Segment ℕ} {i fd : ℕ} {x : List ℕ} {d : ℕ} (t : State Segment ℕ) → Waiting s i fd x d → Same s i t.processes → Goes t i fd x d []
goes-nowhere {s} {i} {fd} {x} {d} t w h =
    let same : d ≡ d + 0 = omega arith in
    record {
      more = 0;
      put = refl;
      next = inl (subst (λ n. Waiting t i fd x n) same (in_call-same t w h.is));
      whole =
          λ a b. inl refl;
    }

-- What a try of it does

pub record Writes (s : State Segment ℕ) (x : List ℕ) (d : ℕ) (t : Tried) : Type 0 where
  pub bytes : t.bytes ≡ take (moved t.progress) (drop d x)
  pub into : is_some t.into ≡ true
  pub processes : t.state.processes ≡ s.processes
  pub whole : length x ≤ PIPE_BUF → (moved t.progress ≡ 0) ⊎ (moved t.progress ≡ length (drop d x))

write_now-whole : (q : Queue) (readers : ℕ) (x : List ℕ) → let r = write_now q readers true x in (moved r.progress ≡ 0) ⊎ (moved r.progress ≡ length x)
write_now-whole q readers x =
    let P = λ (r : Passed). (moved r.progress ≡ 0) ⊎ (moved r.progress ≡ length x) in
    branch P (nat_eq (length x) 0) _ _ (λ _. inl refl) (λ _.
    branch P (nat_eq readers 0) _ _ (λ _. inl refl) (λ _.
    branch P (nat_eq (portion true (length x) (room_of q)) 0) _ _ (λ _. inl refl)
    (λ _. branch (λ n. (n ≡ 0) ⊎ (n ≡ length x)) (nat_le (length x) (room_of q)) (length x) 0 (λ _. inr refl) (λ _. inl refl))))

tried-writes : (s : State Segment ℕ) (p : Process ℕ) (fd : ℕ) (x : List ℕ) (d : ℕ) → Holds (Writes s x d) (tried s p (Writing fd x d))
tried-writes s p fd x d = carries (Writes s x d) (writing_end itself s p fd) (λ e. refuse_if (nat_lt MAX_WRITE (length x)) EINVAL >> Ok (try_write s e x d)) (λ e.
    passes (Writes s x d) (refuse_if (nat_lt MAX_WRITE (length x)) EINVAL) (Ok (try_write s e x d)) (record { bytes = refl; into = refl; processes = refl; whole = whole e }))
  where
    whole : (e : End Segment ℕ) → length x ≤ PIPE_BUF → (moved (try_write s e x d).progress ≡ 0) ⊎ (moved (try_write s e x d).progress ≡ length (drop d x))
    whole e short =
        subst (λ b. let r = write_now e.pipe.queue (readers itself s e.description.pipe) b (drop d x) in (moved r.progress ≡ 0) ⊎ (moved r.progress ≡ length (drop d x))) (sym (le-leb (length x) PIPE_BUF short)) (write_now-whole e.pipe.queue (readers itself s e.description.pipe) (drop d x))

pub at-change : (f : Process ℕ → Process ℕ) (ps : List (Option (Process ℕ))) (i : ℕ) (w : Process ℕ) → at ps i ≡ Some w
    → at (change_at f ps (suc i - 1)) i ≡ Some (f w)
at-change f ps i w e =
    let same : suc i - 1 ≡ i = omega arith in
    ap (λ k. at (change_at f ps k) i) same ∙ at-put_same ps i (option_map f (at ps i)) (at_within ps i w e) ∙ ap (option_map f) e

put_any-writes : {s : State Segment ℕ} {x : List ℕ} {d : ℕ} (t : Tried) → Writes s x d t → put_any (Ok t) ≡ take (moved t.progress) (drop d x)
put_any-writes t h = ap (λ b. if b then t.bytes else []) h.into ∙ h.bytes

-- its own Resume
module _ (s : State Segment ℕ) (i fd : ℕ) (x : List ℕ) (d : ℕ) (w : Waiting s i fd x d) where
  ended : (t : State Segment ℕ) → at t.processes i ≡ Some w.who → is_parked (change_process (waiting None) t (suc i)) (suc i) ≡ false
  ended t e = ap in_call (at-change (waiting None) t.processes i w.who e)

  goes_on : (t : State Segment ℕ) (n : ℕ) → at t.processes i ≡ Some w.who → Waiting (change_process (waiting (Some (Moving (Writing fd x n)))) t (suc i)) i fd x n
  goes_on t n e = record { who = waiting (Some (Moving (Writing fd x n))) w.who; stands = at-change (waiting (Some (Moving (Writing fd x n)))) t.processes i w.who e; waits = refl }

  goes-told : (t : Tried) (r : Result (Attempt Segment ℕ) Errno) → IsTold (Writing fd x d) t (moved t.progress) r
      → Writes s x d t → Goes (again s (suc i) r).state i fd x d (member (put_any (Ok t)))
  goes-told t r is h = by_told r is
    where
      piece : member (put_any (Ok t)) ≡ member (take (moved t.progress) (drop d x))
      piece = ap member (put_any-writes t h)

      here : (u : State Segment ℕ) → u ≡ t.state → at u.processes i ≡ Some w.who
      here u e = ap (λ (v : State Segment ℕ). at v.processes i) e ∙ ap (λ ps. at ps i) h.processes ∙ w.stands

      over : (u : State Segment ℕ) → at u.processes i ≡ Some w.who
          → Goes (change_process (waiting None) u (suc i)) i fd x d (member (put_any (Ok t)))
      over u e = record {
        more = moved t.progress;
        put = piece;
        next = inr (ended u e);
        whole = λ short none. ⊎_elim (λ zero. inl zero)
            (λ all. inr (omega (arith, all, none, length-drop d x), ended u e)) (h.whole short);
      }

      by_told : (r : Result (Attempt Segment ℕ) Errno) → IsTold (Writing fd x d) t (moved t.progress) r
          → Goes (again s (suc i) r).state i fd x d (member (put_any (Ok t)))
      by_told (Ok (Finished u reply)) f = over u (here u f.state)
      by_told (Ok (Waits u next)) y =
          subst (λ (c : Call ℕ). Goes (again s (suc i) (Ok (Waits u c))).state i fd x d (member (put_any (Ok t))))
          (sym y.is) (record {
            more = moved t.progress;
            put = piece;
            next = inl (subst
                (λ n. Waiting (change_process (waiting (Some (Moving (Writing fd x y.written)))) u (suc i)) i fd x n)
                y.count (goes_on u y.written (here u y.state)));
            whole = λ short none. ⊎_elim (λ zero. inl zero) (λ all. ⊎_elim (λ zero. inl zero)
                (λ more. absurd (more (omega (arith, all, none, length-drop d x)))) y.more) (h.whole short);
          })
      by_told (Err e) z = over s w.stands

  goes-tried : (r : Result Tried Errno) → Holds (Writes s x d) r → Goes (again s (suc i) (r >>= (λ t. transfer_told (Writing fd x d) t t.progress))).state i fd x d (member (put_any r))
  goes-tried (Ok t) h = goes-told t _ (told-is (Writing fd x d) t t.progress) h
  goes-tried (Err e) h = record { more = 0; put = refl; next = inr (ended s w.stands); whole = λ short start. inl refl }

  goes-parked : (o : Option (Call ℕ)) → Some (Moving (Writing fd x d)) ≡ o → Goes (settle s (or_refuse EINVAL o >>= (λ call. Ok (again s (suc i) (attempt s (suc i) w.who call))))).state i fd x d (member (put_any (or_refuse EINVAL o >>= tried_call s w.who)))
  goes-parked o e =
      subst (λ (o : Option (Call ℕ)). Goes (settle s (or_refuse EINVAL o >>= (λ call. Ok (again s (suc i) (attempt s (suc i) w.who call))))).state i fd x d (member (put_any (or_refuse EINVAL o >>= tried_call s w.who)))) e
      (goes-tried (tried s w.who (Writing fd x d)) (tried-writes s w.who fd x d))

  goes-resume : Goes (settle s (living s (suc i) >>= (λ p. resume s (suc i) p))).state i fd x d (member (put_any (living s (suc i) >>= (λ p. or_refuse EINVAL p.parked >>= tried_call s p))))
  goes-resume =
      subst (λ (o : Option (Process ℕ)). Goes (settle s (or_refuse ESRCH o >>= (λ p. resume s (suc i) p))).state i fd x d (member (put_any (or_refuse ESRCH o >>= (λ p. or_refuse EINVAL p.parked >>= tried_call s p))))) (sym w.stands)
      (goes-parked w.who.parked (sym w.waits))

  -- any step
  goes-left : (o : Outcome Segment ℕ) → Left s i o → Goes o.state i fd x d []
  goes-left o left =
      ⊎_elim (λ stays. goes-nowhere o.state w stays)
      (λ gone. record { more = 0; put = refl; next = inr gone; whole = λ short none. inl refl }) left

  goes-act : (c : Limits) (y : Step) → Goes (act c s y).state i fd x d (own s (suc i) y)
  goes-act c (steps.Resume q) = elim (nat_eq q (suc i)) as (λ b. nat_eq q (suc i) ≡ b → Goes (act c s (steps.Resume q)).state i fd x d (if b then member (put_any (transfer_of s (steps.Resume q))) else [])) [
    | true ↦ λ e. subst (λ q. Goes (act c s (steps.Resume q)).state i fd x d (member (put_any (transfer_of s (steps.Resume q))))) (sym (eqb-true q (suc i) e)) goes-resume
    | false ↦ λ e. goes-left (act c s (steps.Resume q)) (others-leave w c (steps.Resume q) e)
  ] refl
  goes-act c y = goes-left (act c s y) (others-leave w c y tt)

-- Where calls began

pub apart-above : (i k : ℕ) → k < i → nat_eq i k ≡ false
apart-above i k l = elim (nat_eq i k) as (λ b. nat_eq i k ≡ b → nat_eq i k ≡ false) [
  | true ↦ λ e. absurd (omega (arith, l, eqb-true i k e))
  | false ↦ λ e. e
] refl

pub apart-below : (i k : ℕ) → i < k → nat_eq i k ≡ false
apart-below i k l = elim (nat_eq i k) as (λ b. nat_eq i k ≡ b → nat_eq i k ≡ false) [
  | true ↦ λ e. absurd (omega (arith, l, eqb-true i k e))
  | false ↦ λ e. e
] refl

pub began-next : (s : State Segment ℕ) (began : ℕ → ℕ) (k i q : ℕ) → nat_eq i k ≡ false
    → (is_parked s q ≡ true → nat_eq (began q) k ≡ false) → nat_eq (beginning s began i q) k ≡ false
began-next s began k i q apart h = by_test (is_parked s q) h
  where
    by_test : (b : Bool) → (b ≡ true → nat_eq (began q) k ≡ false) → nat_eq (if b then began q else i) k ≡ false
    by_test true h = h refl
    by_test false h = apart

pub began-kept : (s : State Segment ℕ) (began : ℕ → ℕ) (i q : ℕ) → is_parked s q ≡ true → beginning s began i q ≡ began q
began-kept s began i q t = ap (λ b. if b then began q else i) t

-- Lists of steps

pub joined-member : (x : List ℕ) (xs : List (List ℕ)) → joined (member x ++ xs) ≡ x ++ joined xs
joined-member [] xs = refl
joined-member (b ∷ x) xs = refl

-- a call in which nobody waits any more gives nothing
pub ended-none : (c : Limits) (xs : List Step) (s : State Segment ℕ) (began : ℕ → ℕ) (k i : ℕ) → k < i
    → ((q : ℕ) → is_parked s q ≡ true → nat_eq (began q) k ≡ false) → given_by k (gifts c s began i xs) ≡ []
ended-none c [] s began k i l h = refl
ended-none c (y ∷ ys) s began k i l h =
    let apart : nat_eq i k ≡ false = apart-above i k l in
    step-none s began k i y (gifts c (step_of c s y).state (beginning s began i) (suc i) ys) apart h
    ∙ ended-none c ys (step_of c s y).state (beginning s began i) k (suc i) (omega (arith, l)) (λ q t. began-next s began k i q apart (h q))

-- the pieces after those of a step
front-after : (x : List ℕ) (d : ℕ) (k : ℕ) (ps rest : List (List ℕ)) → ps ≡ member (take k (drop d x)) → IsInOrder (drop (d + k) x) rest → IsInOrder (drop d x) (ps ++ rest)
front-after x d k ps rest e h = (
  k + h.0,
  ap (λ (qs : List (List ℕ)). joined (qs ++ rest)) e ∙ joined-member (take k (drop d x)) rest ∙ ap (λ y. take k (drop d x) ++ y) (h.1 ∙ ap (λ y. take h.0 y) (sym (drop-drop k d x)))
      ∙ sym (take-add k h.0 (drop d x)),
)

nothing-front : (x : List ℕ) (ps : List (List ℕ)) → ps ≡ [] → IsInOrder x ps
nothing-front x ps e = (0, ap joined e)

-- no parked call but that of this process began at k
abbrev pub Alone : State Segment ℕ → (ℕ → ℕ) → ℕ → ℕ → Type 0
Alone s began k j = (q : ℕ) → nat_eq q (suc j) ≡ false → is_parked s q ≡ true → nat_eq (began q) k ≡ false

pub all-ended : (s t : State Segment ℕ) (began : ℕ → ℕ) (k i j : ℕ) → nat_eq i k ≡ false → Alone s began k j
    → is_parked t (suc j) ≡ false → (q : ℕ) → is_parked t q ≡ true → nat_eq (beginning s began i q) k ≡ false
all-ended s t began k i j apart alone e q here = elim (nat_eq q (suc j)) as (λ b. nat_eq q (suc j) ≡ b → nat_eq (beginning s began i q) k ≡ false) [
  | true ↦ λ same. absurd (let both : is_parked t (suc j) ≡ true = ap (is_parked t) (sym (eqb-true q (suc j) same)) ∙ here in cc)
  | false ↦ λ other. began-next s began k i q apart (alone q other)
] refl

later-front : (c : Limits) (xs : List Step) (s : State Segment ℕ) (began : ℕ → ℕ) (k i j fd : ℕ) (x : List ℕ) (d : ℕ) → k < i → Waiting s j fd x d → began (suc j) ≡ k → Alone s began k j → IsInOrder (drop d x) (given_by k (gifts c s began i xs))
later-front c [] s began k i j fd x d l w here alone = nothing-front (drop d x) [] refl
later-front c (y ∷ ys) s began k i j fd x d l w here alone =
    subst (λ ps. IsInOrder (drop d x) ps) (sym (own-step s began k i j y rest apart here alone))
    (front-after x d g.more (own s (suc j) y) (given_by k rest) g.put
    (⊎_elim
    (λ v. later-front c ys t (beginning s began i) k (suc i) j fd x (d + g.more) (omega (arith, l))
    (in_call-same t v refl) (began-kept s began i (suc j) (in_call-parked w) ∙ here)
    (λ q other p. began-next s began k i q apart (alone q other)))
    (λ e. nothing-front (drop (d + g.more) x) (given_by k rest) (ended-none c ys t (beginning s began i) k (suc i) (omega (arith, l)) (all-ended s t began k i j apart alone e)))
    g.next))
  where
    t : State Segment ℕ
    t = (step_of c s y).state

    rest : List Gift
    rest = gifts c t (beginning s began i) (suc i) ys

    apart : nat_eq i k ≡ false
    apart = apart-above i k l

    g : Goes (act c s y).state j fd x d (own s (suc j) y)
    g = goes-act s j fd x d w c y

whole-after : (x : List ℕ) (n : ℕ) (ps rest : List (List ℕ)) → ps ≡ member (take n x) → n ≡ length x → rest ≡ [] → IsWhole x (ps ++ rest)
whole-after x n ps rest e all none =
    let front : take n x ≡ x = take_all n x (omega (arith, all)) in
    let both : ps ++ rest ≡ member x = ap (λ (qs : List (List ℕ)). qs ++ rest) (e ∙ ap member front) ∙ ap (λ (qs : List (List ℕ)). member x ++ qs) none ∙ append-nil (member x) in
    subst (λ (qs : List (List ℕ)). IsWhole x qs) (sym both) (one x)
  where
    one : (y : List ℕ) → IsWhole y (member y)
    one [] = inl refl
    one (b ∷ y) = inr refl

none-before : (x : List ℕ) (n : ℕ) (ps rest : List (List ℕ)) → ps ≡ member (take n x) → n ≡ 0 → IsWhole x rest → IsWhole x (ps ++ rest)
none-before x n ps rest e nought h =
    let both : rest ≡ ps ++ rest = sym (ap (λ (qs : List (List ℕ)). qs ++ rest) (e ∙ ap (λ k. member (take k x)) nought)) in
    subst (λ (qs : List (List ℕ)). IsWhole x qs) both h

later-whole : (c : Limits) (xs : List Step) (s : State Segment ℕ) (began : ℕ → ℕ) (k i j fd : ℕ) (x : List ℕ) → length x ≤ PIPE_BUF → k < i → Waiting s j fd x 0 → began (suc j) ≡ k → Alone s began k j → IsWhole x (given_by k (gifts c s began i xs))
later-whole c [] s began k i j fd x short l w here alone = inl refl
later-whole c (y ∷ ys) s began k i j fd x short l w here alone =
    subst (λ ps. IsWhole x ps) (sym (own-step s began k i j y rest apart here alone))
    (⊎_elim
    (λ zero. none-before x g.more (own s (suc j) y) (given_by k rest) g.put zero (⊎_elim
    (λ v. later-whole c ys t (beginning s began i) k (suc i) j fd x short (omega (arith, l))
    (in_call-same t (let same : 0 + g.more ≡ 0 = omega (arith, zero) in subst
    (λ n. Waiting (act c s y).state j fd x n) same v) refl) (began-kept s began i (suc j) (in_call-parked w)
    ∙ here) (λ q other p. began-next s began k i q apart (alone q other)))
    (λ e. inl (over e))
    g.next))
    (λ all. whole-after x g.more (own s (suc j) y) (given_by k rest) g.put all.0 (over all.1))
    (g.whole short refl))
  where
    t : State Segment ℕ
    t = (step_of c s y).state

    rest : List Gift
    rest = gifts c t (beginning s began i) (suc i) ys

    apart : nat_eq i k ≡ false
    apart = apart-above i k l

    g : Goes (act c s y).state j fd x 0 (own s (suc j) y)
    g = goes-act s j fd x 0 w c y

    over : is_parked t (suc j) ≡ false → given_by k rest ≡ []
    over e = ended-none c ys t (beginning s began i) k (suc i) (omega (arith, l)) (all-ended s t began k i j apart alone e)

-- Where the Write itself leads

-- whoever waits after it waited before
abbrev pub Over : State Segment ℕ → State Segment ℕ → ℕ → Type 0
Over s t i = is_parked t (suc i) ≡ true → is_parked s (suc i) ≡ true

-- it waits in its call, which is a new one, or it has ended
pub record Begins (s : State Segment ℕ) (o : Outcome Segment ℕ) (i fd : ℕ) (x : List ℕ) (ps : List (List ℕ)) : Type 0 where
  pub more : ℕ
  pub put : ps ≡ member (take more x)
  pub next : (Waiting o.state i fd x more × (is_parked s (suc i) ≡ false)) ⊎ Over s o.state i
  pub whole : length x ≤ PIPE_BUF → (more ≡ 0) ⊎ ((more ≡ length x) × Over s o.state i)

module _ (s : State Segment ℕ) (i fd : ℕ) (x : List ℕ) where
  refused-begins : (e : Errno) → Begins s (settle s (Err e)) i fd x []
  refused-begins e = record { more = 0; put = refl; next = inr (λ t. t); whole = λ short. inl refl }

  module _ (w : Process ℕ) (here : at s.processes i ≡ Some w) (free : is_some w.parked ≡ false) where
    still : (t : Tried) → Writes s x 0 t → at t.state.processes i ≡ Some w
    still t h = ap (λ ps. at ps i) h.processes ∙ here

    idle : is_parked s (suc i) ≡ false
    idle = ap in_call here ∙ free

    over : (t : Tried) → Writes s x 0 t → Over s t.state i
    over t h z = sym (ap in_call (still t h ∙ sym here)) ∙ z

    -- nothing went in, and it is refused
    begins-refused : (t : Tried) (e : Errno) → moved t.progress ≡ 0 → Writes s x 0 t → Begins s (settle s (Err e)) i fd x (member (put_any (Ok t)))
    begins-refused t e none h = record { more = 0; put = ap member (put_any-writes t h ∙ ap (λ m. take m x) none); next = inr (λ z. z); whole = λ short. inl refl }

    -- it waits with so much done, or is told so where it may not wait
    begins-waits : (b : Bool) (t : Tried) (n d : ℕ) → d ≡ n → moved t.progress ≡ n → Writes s x 0 t → (length x ≤ PIPE_BUF → n ≡ 0) → Begins s (settle s (first (suc i) b (Waits t.state (Moving (Writing fd x d))))) i fd x (member (put_any (Ok t)))
    begins-waits false t n d same e h all =
        let on : Waiting (change_process (waiting (Some (Moving (Writing fd x d)))) t.state (suc i)) i fd x d = record { who = waiting (Some (Moving (Writing fd x d))) w; stands = at-change (waiting (Some (Moving (Writing fd x d)))) t.state.processes i w (still t h); waits = refl } in
        record {
          more = d;
          put = ap member (put_any-writes t h ∙ ap (λ m. take m x) (e ∙ sym same));
          next = inl (on, idle);
          whole = λ short. inl (omega (arith, same, all short));
        }
    begins-waits true t n d same e h all = by_test (nat_eq d 0)
      where
        by_test : (b : Bool) → Begins s (settle s (if b then Err EAGAIN else Ok (told t.state (replies.Num d)))) i fd x (member (put_any (Ok t)))
        by_test true = record { more = n; put = ap member (put_any-writes t h ∙ ap (λ m. take m x) e); next = inr (λ z. z); whole = λ short. inl (all short) }
        by_test false = record { more = n; put = ap member (put_any-writes t h ∙ ap (λ m. take m x) e); next = inr (over t h); whole = λ short. inl (all short) }

    begins-told : (b : Bool) (t : Tried) (r : Progress) → t.progress ≡ r → Writes s x 0 t → Begins s (settle s (write_told fd x 0 t r >>= first (suc i) b)) i fd x (member (put_any (Ok t)))
    begins-told b t (Moved n) e h = by_test (nat_eq (0 + n) (length x)) refl
      where
        count : moved t.progress ≡ n
        count = ap (λ (y : Progress). moved y) e

        by_test : (z : Bool) → nat_eq (0 + n) (length x) ≡ z → Begins s (settle s ((if z then Ok (Finished t.state (replies.Num (length x))) else Ok (Waits t.state (Moving (Writing fd x (0 + n))))) >>= first (suc i) b)) i fd x (member (put_any (Ok t)))
        by_test true f = record {
          more = n;
          put = ap member (put_any-writes t h ∙ ap (λ m. take m x) count);
          next = inr (over t h);
          whole = λ short. inr (omega (arith, eqb-true (0 + n) (length x) f), over t h);
        }
        by_test false f = begins-waits b t n (0 + n) (omega arith) count h (λ short. ⊎_elim (λ zero. omega (arith, count, zero)) (λ rest. absurd (eqb-false (0 + n) (length x) f (omega (arith, rest, count)))) (h.whole short))
    begins-told b t EndOfFile e h = begins-waits b t 0 0 refl (ap (λ (y : Progress). moved y) e) h (λ short. refl)
    begins-told b t WouldBlock e h = begins-waits b t 0 0 refl (ap (λ (y : Progress). moved y) e) h (λ short. refl)
    begins-told b t NoReader e h = begins-refused t EPIPE (ap (λ (y : Progress). moved y) e) h

    begins-tried : (b : Bool) (r : Result Tried Errno) → Holds (Writes s x 0) r → Begins s (settle s ((r >>= (λ t. transfer_told (Writing fd x 0) t t.progress)) >>= first (suc i) b)) i fd x (member (put_any r))
    begins-tried b (Ok t) h = begins-told b t t.progress refl h
    begins-tried b (Err e) h = refused-begins e

  begins-ready : (w : Process ℕ) (b : Bool) → at s.processes i ≡ Some w → is_some w.parked ≡ b → Begins s (settle s ((refuse_if b EBUSY >> Ok w) >>= (λ p. transfer s (suc i) p false (Writing fd x 0)))) i fd x (member (put_any ((refuse_if b EBUSY >> Ok w) >>= (λ p. tried s p (Writing fd x 0)))))
  begins-ready w true here e = refused-begins EBUSY
  begins-ready w false here e = begins-tried w here e (false || nonblocking s w (Writing fd x 0)) (tried s w (Writing fd x 0)) (tried-writes s w fd x 0)

  begins : Begins s (settle s (ready s (suc i) >>= (λ p. transfer s (suc i) p false (Writing fd x 0)))) i fd x (member (put_any (ready s (suc i) >>= (λ p. tried s p (Writing fd x 0)))))
  begins = by_process (at s.processes i) refl
    where
      by_process : (o : Option (Process ℕ)) → at s.processes i ≡ o → Begins s (settle s ((or_refuse ESRCH o >>= (λ p. refuse_if (is_some p.parked) EBUSY >> Ok p)) >>= (λ p. transfer s (suc i) p false (Writing fd x 0)))) i fd x (member (put_any ((or_refuse ESRCH o >>= (λ p. refuse_if (is_some p.parked) EBUSY >> Ok p)) >>= (λ p. tried s p (Writing fd x 0)))))
      by_process None e = refused-begins ESRCH
      by_process (Some w) e = begins-ready w (is_some w.parked) e refl

-- The law

-- a Write leaves who else waits
unmoved : (c : Limits) (s : State Segment ℕ) (j fd : ℕ) (x : List ℕ) (q : ℕ) → nat_eq q (suc j) ≡ false → is_parked (step_of c s (steps.Write (suc j) fd x)).state q ≡ true → is_parked s q ≡ true
unmoved c s j fd x zero other t = t
unmoved c s j fd x (suc m) other t =
    let apart : m ≢ suc j - 1 = λ same. eqb-false (suc m) (suc j) other (omega (arith, same)) in
    let stays : Same s m (act c s (steps.Write (suc j) fd x)).state.processes = settle-stays s m (call c s (steps.Write (suc j) fd x)) (carries (Stays s m) (ready s (suc j)) (λ p. transfer s (suc j) p false (Writing fd x 0)) (λ p. transfer-stays s m (suc j) apart p false (Writing fd x 0))) in
    sym (ap in_call stays.is) ∙ t

module _ (c : Limits) (fd : ℕ) (x : List ℕ) (s : State Segment ℕ) (began : ℕ → ℕ) (i : ℕ) (ys : List Step) (before : (q : ℕ) → is_parked s q ≡ true → nat_eq (began q) i ≡ false) where
  -- who waited before waits in another call
  began-before : (q : ℕ) → is_parked s q ≡ true → nat_eq (beginning s began i q) i ≡ false
  began-before q t = ap (λ m. nat_eq m i) (began-kept s began i q t) ∙ before q t

  module _ (j : ℕ) where
    abbrev after : State Segment ℕ
    after = (step_of c s (steps.Write (suc j) fd x)).state

    abbrev later : List Gift
    later = gifts c after (beginning s began i) (suc i) ys

    g : Begins s (act c s (steps.Write (suc j) fd x)) j fd x (member (put_any (transfer_of s (steps.Write (suc j) fd x))))
    g = begins s j fd x

    alone : Alone after (beginning s began i) i j
    alone q other t = began-before q (unmoved c s j fd x q other t)

    over-none : Over s after j → given_by i later ≡ []
    over-none over = ended-none c ys after (beginning s began i) i (suc i) (omega arith) (λ q t. elim (nat_eq q (suc j)) as (λ b. nat_eq q (suc j) ≡ b → nat_eq (beginning s began i q) i ≡ false) [
      | true ↦ λ same.
          let here : is_parked s q ≡ true = ap (is_parked s) (eqb-true q (suc j) same) ∙ over (ap (is_parked after) (sym (eqb-true q (suc j) same)) ∙ t) in
          began-before q here
      | false ↦ λ other. alone q other t
    ] refl)

    own-write : given_by i (gifts c s began i (steps.Write (suc j) fd x ∷ ys)) ≡ member (put_any (transfer_of s (steps.Write (suc j) fd x))) ++ given_by i later
    own-write = by-gift_of i (transfer_of s (steps.Write (suc j) fd x)) later

    here : is_parked s (suc j) ≡ false → beginning s began i (suc j) ≡ i
    here idle = ap (λ b. if b then began (suc j) else i) idle

    write-front : IsInOrder x (given_by i (gifts c s began i (steps.Write (suc j) fd x ∷ ys)))
    write-front =
        subst (λ ps. IsInOrder x ps) (sym own-write)
        (front-after x 0 g.more (member (put_any (transfer_of s (steps.Write (suc j) fd x)))) (given_by i later) g.put
        (⊎_elim
        (λ v.
        let same : g.more ≡ 0 + g.more = omega arith in
        later-front c ys after (beginning s began i) i (suc i) j fd x (0 + g.more) (omega arith)
        (subst (λ n. Waiting after j fd x n) same (in_call-same after v.0 refl)) (here v.1) alone)
        (λ over. nothing-front (drop (0 + g.more) x) (given_by i later) (over-none over))
        g.next))

    write-whole : length x ≤ PIPE_BUF → IsWhole x (given_by i (gifts c s began i (steps.Write (suc j) fd x ∷ ys)))
    write-whole short =
        subst (λ ps. IsWhole x ps) (sym own-write)
        (⊎_elim
        (λ zero. none-before x g.more (member (put_any (transfer_of s (steps.Write (suc j) fd x)))) (given_by i later) g.put zero (⊎_elim
        (λ v. later-whole c ys after (beginning s began i) i (suc i) j fd x short (omega arith)
        (subst (λ n. Waiting after j fd x n) zero (in_call-same after v.0 refl)) (here v.1) alone)
        (λ over. inl (over-none over))
        g.next))
        (λ all. whole-after x g.more (member (put_any (transfer_of s (steps.Write (suc j) fd x)))) (given_by i later) g.put all.0 (over-none all.1))
        (g.whole short))

  -- there is no pid 0
  nobody : given_by i (gifts c s began i (steps.Write 0 fd x ∷ ys)) ≡ []
  nobody = ended-none c ys (step_of c s (steps.Write 0 fd x)).state (beginning s began i) i (suc i) (omega arith) none
    where
      none : (q : ℕ) → is_parked (step_of c s (steps.Write 0 fd x)).state q ≡ true → nat_eq (beginning s began i q) i ≡ false
      none zero t = began-before zero t
      none (suc m) t = began-before (suc m) t

  front-at : (pid : ℕ) → IsInOrder x (given_by i (gifts c s began i (steps.Write pid fd x ∷ ys)))
  front-at zero = nothing-front x _ nobody
  front-at (suc j) = write-front j

  whole-at : (pid : ℕ) → length x ≤ PIPE_BUF → IsWhole x (given_by i (gifts c s began i (steps.Write pid fd x ∷ ys)))
  whole-at zero short = inl nobody
  whole-at (suc j) short = write-whole j short

-- Every place of a run

pub began-earlier : (s : State Segment ℕ) (began : ℕ → ℕ) (i : ℕ) → ((q : ℕ) → is_parked s q ≡ true → began q < i)
    → (q : ℕ) → beginning s began i q < suc i
began-earlier s began i h q = by_test (is_parked s q) (h q)
  where
    by_test : (b : Bool) → (b ≡ true → began q < i) → (if b then began q else i) < suc i
    by_test true h = omega (arith, h refl)
    by_test false h = omega arith

module _ (c : Limits) (pid fd : ℕ) (x : List ℕ) (P : List (List ℕ) → Type 0)
    (here : (s : State Segment ℕ) (began : ℕ → ℕ) (i : ℕ) (ys : List Step) → ((q : ℕ) → is_parked s q ≡ true → nat_eq (began q) i ≡ false) → P (given_by i (gifts c s began i (steps.Write pid fd x ∷ ys)))) where
  run-at : (xs : List Step) (s : State Segment ℕ) (began : ℕ → ℕ) (i m k : ℕ) → k ≡ i + m → at (map Some xs) m ≡ Some (steps.Write pid fd x) → ((q : ℕ) → is_parked s q ≡ true → began q < i) → P (given_by k (gifts c s began i xs))
  run-at [] s began i m k e there earlier = absurd (cc)
  run-at (y ∷ ys) s began i zero k e there earlier =
      let place : i ≡ k = omega (arith, e) in
      let step : steps.Write pid fd x ≡ y = cc in
      subst (λ z. P (given_by k (gifts c s began i (z ∷ ys)))) step
      (subst (λ n. P (given_by n (gifts c s began i (steps.Write pid fd x ∷ ys)))) place (here s began i ys (λ q t. apart-below (began q) i (earlier q t))))
  run-at (y ∷ ys) s began i (suc m) k e there earlier =
      let below : i < k = omega (arith, e) in
      let rest = gifts c (step_of c s y).state (beginning s began i) (suc i) ys in
      subst P (sym (step-none s began k i y rest (apart-below i k below) (λ q t. apart-below (began q) k (omega (arith, earlier q t, below)))))
      (run-at ys (step_of c s y).state (beginning s began i) (suc i) m k (omega (arith, e)) there (λ q t. began-earlier s began i earlier q))

-- In a run from the opening state

pub at-replicate : {X : Type 0} (n m : ℕ) → at {X = X} (replicate n None) m ≡ None
at-replicate zero m = refl
at-replicate (suc n) zero = refl
at-replicate (suc n) (suc m) = at-replicate n m

pub nobody_waits : (q : ℕ) → is_parked opening q ≡ true → 0 < 0
unfolding vacant
nobody_waits zero t = absurd (cc)
nobody_waits (suc m) t = absurd (let none : is_parked opening (suc m) ≡ false = ap in_call (at-replicate MAX_PROCESSES m) in cc)

pub in_order : (c : Limits) (xs : List Step) (k : ℕ) (x : List ℕ) → IsWrite xs k x → IsInOrder x (given_by k (given c xs))
in_order c xs k x w =
    run-at c w.0 w.1 x (IsInOrder x) (λ s began i ys before. front-at c w.1 x s began i ys before w.0) xs opening (λ pid. 0) 0 k k (omega arith) w.2 nobody_waits

pub whole : (c : Limits) (xs : List Step) (k : ℕ) (x : List ℕ) → IsWrite xs k x → length x ≤ PIPE_BUF → IsWhole x (given_by k (given c xs))
whole c xs k x w short =
    run-at c w.0 w.1 x (IsWhole x) (λ s began i ys before. whole-at c w.1 x s began i ys before w.0 short) xs opening (λ pid. 0) 0 k k (omega arith) w.2 nobody_waits
