-- What went through a pipe in a run: what was taken, followed by what the pipe holds, is what was given.

use Rattle.std.proofs.Common.{◌≡◌, ℕ, suc, ◌<◌, ◌≤◌, Bool, true, false, ◌*◌, List, [], ◌∷◌, ◌++◌, length, map, nat_eq, Option, Some, None, Ok, Err, refl, sym, ap, ◌∙◌, subst, ◌⊎◌, inl, inr, ⊎_elim, arith, nat_lt, if◌then◌else◌, append-nil, append_assoc}
use Rattle.std.proofs.lemmas.Bool.{cases_lt}
use Rattle.std.specs.Prelude.{Result, filter}
use Rattle.pf_machine.specs.Refusals.{◌>>=◌, or_refuse}
use Rattle.pf_base.specs.Limits.{Limits}
use Rattle.pf_machine.specs.Queue.{Segment, bytes_of, empty, with_capacity}
use Rattle.pf_machine.specs.Numbered.{at, keep}
use Rattle.pf_machine.proofs.NumberedLaws.{at-keep, length-keep, at_past}
use Rattle.pf_base.specs.declared.TheConstants.{PAGE_SIZE}
use Rattle.pf_base.specs.declared.errno.Errno.{Errno}
use Rattle.pf_base.specs.declared.errno.Errno.TheVariants.{EINVAL}
use Rattle.pf_base.specs.declared.progress.Crossing.TheVariants as crossings
use Rattle.pf_machine.specs.Calls.{Transfer, Reading, Writing, Bringing}
use Rattle.pf_machine.specs.State.{itself, State, Process, Pipe, End, Outcome, with_queue, told, done, opening, settle, living, ready, holding}
use Rattle.pf_machine.specs.Pipes.{new_pipe}
use Rattle.pf_machine.specs.Counts.{ends}
use Rattle.pf_machine.specs.Transfers.{Tried, tried}
use Rattle.pf_machine.specs.Attempts.{transfer, resume}
use Rattle.pf_machine.specs.Opens.{Access, Found, open_path, counted}
use Rattle.pf_machine.specs.Sweep.{sweep}
use Rattle.pf_machine.specs.Machine.{call, act, step_of}
use Rattle.pf_machine.specs.Runs.{run_of}
use Rattle.pf_laws.specs.Streams.{transfer_of, tried_call, if_at, put_in, taken_out, Gift, gift, gift_into, gift_of, call_at, beginning, gifts, joined, given_to, took, took_from, IsStream}
use Rattle.pf_base.specs.declared.step.Step.{Step}
use Rattle.pf_base.specs.declared.step.Reply.{Reply}
use Rattle.pf_base.specs.declared.step.Step.TheVariants as steps
use Rattle.pf_machine.proofs.HoldsLaws.{Holds, carries, of_given}
use Rattle.pf_machine.proofs.AttemptLaws.{made, open-comes}
use Rattle.pf_machine.proofs.StepLaws.{Still, step-keeps}
use Rattle.pf_laws.proofs.PipeLaws.{Stands, end_of-stands, bytes_at, bytes_in, Keeps, keeps-same, keeps-trans, keeps-change, keeps-push, bytes_at-kept, bytes_at-push}
use Rattle.pf_laws.proofs.TriedLaws.{Flows, flows-none, transfer-flows, resume-flows}

-- Steps that move nothing

pub record Quiet (s : State Segment ℕ) (o : Outcome Segment ℕ) : Type 0 where
  pub same : (p : ℕ) → bytes_at o.state.pipes p ≡ bytes_at s.pipes p
  pub keeps : Keeps s.pipes o.state.pipes

quiet-same : (s : State Segment ℕ) (o : Outcome Segment ℕ) → o.state.pipes ≡ s.pipes → Quiet s o
quiet-same s o e = record { same = λ p. ap (λ ps. bytes_at ps p) e; keeps = subst (λ ps. Keeps s.pipes ps) (sym e) (keeps-same s.pipes) }

quiet-flows : (s : State Segment ℕ) (e : Errno) (r : Result (Outcome Segment ℕ) Errno) → Holds (Quiet s) r → Flows s (Err e) (settle s r)
quiet-flows s e (Ok o) q = flows-none s e o q.same q.keeps
quiet-flows s e (Err x) q = flows-none s e _ (λ p. refl) (keeps-same s.pipes)

-- pipes with the same bytes, of which none came back
pub record SamePipes (ps qs : List (Option (Pipe Segment))) : Type 0 where
  pub same : (p : ℕ) → bytes_at qs p ≡ bytes_at ps p
  pub keeps : Keeps ps qs

quiet-pipes : (s t : State Segment ℕ) (r : Reply) → SamePipes s.pipes t.pipes → Quiet s (told t r)
quiet-pipes s t r h = record { same = h.same; keeps = h.keeps }

-- a new pipe is empty
same-pushed : (ps : List (Option (Pipe Segment))) (slots owner : ℕ) (file : Option ℕ) → SamePipes ps (ps ++ Some (new_pipe (empty slots) owner file) ∷ [])
same-pushed ps slots owner file = record { same = bytes_at-push ps (new_pipe (empty slots) owner file) refl; keeps = keeps-push ps (Some (new_pipe (empty slots) owner file)) }

-- another capacity leaves the bytes
resized : (s : State Segment ℕ) (e : End Segment ℕ) → Stands s e → (pages : ℕ)
    → Quiet s (done (with_queue s e.description.pipe (with_capacity pages e.pipe.queue)) (PAGE_SIZE * pages))
resized s e stands pages = record {
  same = bytes_at-kept (holding (with_capacity pages e.pipe.queue)) s.pipes e.description.pipe
      (λ x h. let both : e.pipe ≡ x = cc in ap (λ (y : Pipe Segment). bytes_of y.queue) both);
  keeps = keeps-change (holding (with_capacity pages e.pipe.queue)) s.pipes e.description.pipe;
}

-- an open makes an empty pipe or none, and counts: the open counters are no bytes
open_path-quiet : (c : Limits) (s : State Segment ℕ) (pid : ℕ) (p : Process ℕ) (path : List ℕ) (a : Access)
    → Holds (Quiet s) (open_path itself (length s.descriptions) itself c s pid p path a)
open_path-quiet c s pid p path a =
    open-comes s (Quiet s) c pid p a (λ x. SamePipes s.pipes x.state.pipes)
    (λ n file e. record { same = λ q. refl; keeps = keeps-same s.pipes })
    (λ f there e slots. same-pushed s.pipes slots p.cred.uid (Some f.number))
    (λ x h. quiet-pipes s _ _ (opened x h)) (λ x h kept. quiet-pipes s _ _ (opened x h)) path
  where
    opened : (x : Found Segment ℕ) → SamePipes s.pipes x.state.pipes → SamePipes s.pipes (made a x).pipes
    opened x h = record {
      same = λ q. bytes_at-kept (counted a) x.state.pipes x.pipe (λ y e. refl) q ∙ h.same q;
      keeps = keeps-trans h.keeps (keeps-change (counted a) x.state.pipes x.pipe);
    }

-- One step

still : (s : State Segment ℕ) → Still s (Quiet s)
still s = record {
  spawned = λ cred. quiet-same s _ refl;
  forked = λ pid p f. quiet-same s _ refl;
  exited = λ pid p l. quiet-same s _ refl;
  duped = λ pid p fd n f e. quiet-same s _ refl;
  closed = λ pid p fd f. quiet-same s _ refl;
  flagged = λ n on. quiet-same s _ refl;
  piped = λ pid p nonblock f slots. quiet-pipes s _ _ (same-pushed s.pipes slots p.cred.uid None);
  sized = λ p fd e is pages. resized s e (of_given (Stands s) _ e is (end_of-stands s p fd)) pages;
  looked = λ r fine short. quiet-same s _ refl;
  made = λ c kind path mode files e. quiet-same s _ refl;
  filed = λ c files how. quiet-same s _ refl;
  opened = λ c pid p path a f. open_path-quiet c s pid p path a;
}

-- a transfer, and a parked call tried again
flows-transfer : (s : State Segment ℕ) (pid : ℕ) (flag : Bool) (call : Transfer) (r : Result (Process ℕ) Errno) → Flows s (r >>= (λ p. tried s p call)) (settle s (r >>= (λ p. transfer s pid p flag call)))
flows-transfer s pid flag call (Ok p) = transfer-flows s pid p flag call
flows-transfer s pid flag call (Err e) = flows-none s e _ (λ q. refl) (keeps-same s.pipes)

flows-resume : (s : State Segment ℕ) (pid : ℕ) (r : Result (Process ℕ) Errno) → Flows s (r >>= (λ p. or_refuse EINVAL p.parked >>= tried_call s p)) (settle s (r >>= (λ p. resume s pid p)))
flows-resume s pid (Ok p) = resume-flows s pid p
flows-resume s pid (Err e) = flows-none s e _ (λ q. refl) (keeps-same s.pipes)

flows-act : (c : Limits) (s : State Segment ℕ) (x : Step) → Flows s (transfer_of s x) (act c s x)
flows-act c s (steps.Read pid fd n) = flows-transfer s pid false (Reading fd n) (ready s pid)
flows-act c s (steps.Write pid fd payload) = flows-transfer s pid false (Writing fd payload 0) (ready s pid)
flows-act c s (steps.Tee pid source sink n nonblock) = flows-transfer s pid nonblock (Bringing crossings.Tee source sink n) (ready s pid)
flows-act c s (steps.Splice pid source sink n nonblock) = flows-transfer s pid nonblock (Bringing crossings.Splice source sink n) (ready s pid)
flows-act c s (steps.Resume pid) = flows-resume s pid (living s pid)
flows-act c s (steps.List pid path) =
    quiet-flows s EINVAL (call c s (steps.List pid path)) (step-keeps s (Quiet s) (still s) c (steps.List pid path)
    (λ p f. search (carries, quiet-same) depth 16))
flows-act c s x = quiet-flows s EINVAL (call c s x) (step-keeps s (Quiet s) (still s) c x tt)

-- what stands in a list of which some numbers were kept stood there
kept_was : {X : Type 0} (test : ℕ → Bool) (xs : List (Option X)) (k : ℕ) (x : X) → at (keep test xs) k ≡ Some x → at xs k ≡ Some x
kept_was test xs k x e = by_test (test k) (sym (at-keep test xs k) ∙ e)
  where
    by_test : (b : Bool) → (if b then at xs k else None) ≡ Some x → at xs k ≡ Some x
    by_test true h = h
    by_test false h = absurd (cc)

-- a pipe that stands, or that is still to be drawn
abbrev Later : List (Option (Pipe Segment)) → ℕ → Type 0
Later ps p = ((x : Pipe Segment) × (at ps p ≡ Some x)) ⊎ (length ps ≤ p)

swept-bytes : (s : State Segment ℕ) (p : ℕ) → Later (sweep itself s).pipes p → bytes_at (sweep itself s).pipes p ≡ bytes_at s.pipes p
swept-bytes s p later = ⊎_elim
    (λ h. ap bytes_in (h.1 ∙ sym (kept_was (λ n. nat_lt 0 (ends itself (sweep itself s).descriptions n)) s.pipes p h.0 h.1)))
    (λ l.
    let same : length (sweep itself s).pipes ≡ length s.pipes = length-keep (λ n. nat_lt 0 (ends itself (sweep itself s).descriptions n)) s.pipes in
    ap bytes_in (at_past (sweep itself s).pipes p l ∙ sym (at_past s.pipes p (omega (arith, l, same)))))
    later

-- who stands later stood before, or was to be drawn
keeps-later : (old new : List (Option (Pipe Segment))) (p : ℕ) → Keeps old new → Later new p → Later old p
keeps-later old new p k later = ⊎_elim
    (λ h. ⊎_elim (λ within. inl (by_place (at old p) refl within h.0 h.1)) (λ past. inr past) (cases_lt p (length old)))
    (λ l. inr (omega (arith, l, k.longer)))
    later
  where
    by_place : (o : Option (Pipe Segment)) → at old p ≡ o → p < length old → (x : Pipe Segment) → at new p ≡ Some x → (y : Pipe Segment) × (at old p ≡ Some y)
    by_place None e l x h = absurd (let gone : at new p ≡ None = k.gone p l e in cc)
    by_place (Some y) e l x h = (y, e)

swept-later : (s : State Segment ℕ) (p : ℕ) → Later (sweep itself s).pipes p → Later s.pipes p
swept-later s p later = ⊎_elim
    (λ h. inl (h.0, kept_was (λ n. nat_lt 0 (ends itself (sweep itself s).descriptions n)) s.pipes p h.0 h.1))
    (λ l. inr (omega (arith, l, length-keep (λ n. nat_lt 0 (ends itself (sweep itself s).descriptions n)) s.pipes)))
    later

later_back : (c : Limits) (s : State Segment ℕ) (xs : List Step) (p : ℕ) → Later (run_of c s xs).state.pipes p → Later s.pipes p
later_back c s [] p later = later
later_back c s (x ∷ xs) p later =
    keeps-later s.pipes (act c s x).state.pipes p (flows-act c s x).keeps (swept-later (act c s x).state p (later_back c (step_of c s x).state xs p later))

-- the bytes given to a pipe, joined
abbrev bytes_to : ℕ → List Gift → List ℕ
bytes_to n gs = joined (given_to n gs)

to-gift : (n k q : ℕ) (x : List ℕ) (gs : List Gift) → bytes_to n (gift k q x ++ gs) ≡ (if nat_eq q n then x else []) ++ bytes_to n gs
to-gift n k q [] gs = by_test (nat_eq q n)
  where
    by_test : (b : Bool) → bytes_to n gs ≡ (if b then [] else []) ++ bytes_to n gs
    by_test true = refl
    by_test false = refl
to-gift n k q (y ∷ x) gs = by_test (nat_eq q n)
  where
    g : Gift
    g = record { call = k; pipe = q; bytes = y ∷ x }

    by_test : (b : Bool) → joined (map (λ h. h.bytes) (if b then g ∷ filter (λ h. nat_eq h.pipe n) gs else filter (λ h. nat_eq h.pipe n) gs)) ≡ (if b then y ∷ x else []) ++ bytes_to n gs
    by_test true = refl
    by_test false = refl

to-gift_of : (n k : ℕ) (r : Result Tried Errno) (gs : List Gift) → bytes_to n (gift_of k r ++ gs) ≡ put_in n r ++ bytes_to n gs
to-gift_of n k (Err e) gs = refl
to-gift_of n k (Ok t) gs = by_pipe t.into
  where
    by_pipe : (o : Option ℕ) → bytes_to n (gift_into k t.bytes o ++ gs) ≡ if_at n o t.bytes ++ bytes_to n gs
    by_pipe None = refl
    by_pipe (Some q) = to-gift n k q t.bytes gs

-- the sweep leaves the bytes of what stands, and brings nothing back
flows-step : (c : Limits) (s : State Segment ℕ) (x : Step) (p : ℕ) → Later (step_of c s x).state.pipes p → taken_out p (transfer_of s x) ++ bytes_at (step_of c s x).state.pipes p ≡ bytes_at s.pipes p ++ put_in p (transfer_of s x)
flows-step c s x p later = ap (λ y. taken_out p (transfer_of s x) ++ y) (swept-bytes (act c s x).state p later) ∙ (flows-act c s x).each p

-- A run

-- what a run took, followed by what a pipe holds then, is what it held before and what the run gave
flows-run : (c : Limits) (s : State Segment ℕ) (began : ℕ → ℕ) (i : ℕ) (xs : List Step) (p : ℕ) → Later (run_of c s xs).state.pipes p → took_from c s xs p ++ bytes_at (run_of c s xs).state.pipes p ≡ bytes_at s.pipes p ++ bytes_to p (gifts c s began i xs)
flows-run c s began i [] p later = sym (append-nil (bytes_at s.pipes p))
flows-run c s began i (x ∷ xs) p later =
    let mid = (step_of c s x).state in
    let rest = gifts c mid (beginning s began i) (suc i) xs in
    append_assoc (taken_out p (transfer_of s x)) (took_from c mid xs p) (bytes_at (run_of c mid xs).state.pipes p)
    ∙ ap (λ y. taken_out p (transfer_of s x) ++ y) (flows-run c mid (beginning s began i) (suc i) xs p later)
    ∙ sym (append_assoc (taken_out p (transfer_of s x)) (bytes_at mid.pipes p) (bytes_to p rest))
    ∙ ap (λ y. y ++ bytes_to p rest) (flows-step c s x p (later_back c mid xs p later))
    ∙ append_assoc (bytes_at s.pipes p) (put_in p (transfer_of s x)) (bytes_to p rest)
    ∙ ap (λ y. bytes_at s.pipes p ++ y) (sym (to-gift_of p (call_at began i x) (transfer_of s x) rest))

-- the law on streams
pub stream : (c : Limits) (xs : List Step) (n : ℕ) (p : Pipe Segment) → at (run_of c opening xs).state.pipes n ≡ Some p → IsStream c xs n p
stream c xs n p e =
    ap (λ o. took c xs n ++ bytes_in o) (sym e)
    ∙ flows-run c opening (λ pid. 0) 0 xs n (inl (p, e))
