-- Each step keeps that whoever waits in a call can try it again; and what a step but Resume comes to is no error.

use Rattle.std.proofs.Common.{◌≡◌, ℕ, ◌+◌, ◌-◌, Bool, List, ◌∷◌, ◌++◌, length, set, Option, Some, None, refl, sym, ap, ◌∙◌, subst, ◌⊎◌, inl, inr, ⊎_elim, []}
use Rattle.std.specs.Option.{option_map, option_and_then}
use Rattle.pf_machine.specs.Refusals.{or_refuse}
use Rattle.pf_base.specs.Limits.{Limits}
use Rattle.pf_machine.specs.Queue.{Segment, Queue, empty}
use Rattle.pf_machine.specs.Numbered.{at, put_at, change_at, first_free}
use Rattle.pf_machine.proofs.NumberedLaws.{at-put_same, at-push_new, at_within}
use Rattle.pf_machine.specs.Calls.{Transfer, Reading, Writing, Bringing, Call, Opening, Moving}
use Rattle.pf_machine.specs.State.{itself, State, Process, Description, Pipe, End, Outcome, holding, end_at, end_of, change_process, waiting, told, with_process, with_queue, with_descriptor}
use Rattle.pf_machine.specs.Pipes.{reading, writing, new_pipe, opened, first_descriptor, second_descriptor, with_two}
use Rattle.pf_machine.specs.Transfers.{tried}
use Rattle.pf_machine.specs.Attempts.{parked, transfer, resume}
use Rattle.pf_machine.specs.Opens.{Access, fifo_pipe, Found, counted, open_path}
use Rattle.pf_machine.specs.Machine.{call}
use Rattle.pf_base.specs.declared.errno.Errno.TheVariants.{EBADF}
use Rattle.pf_base.specs.declared.step.Reply.{Reply}
use Rattle.pf_base.specs.declared.step.Reply.TheVariants as replies
use Rattle.pf_base.specs.declared.step.Step.{Step}
use Rattle.pf_base.specs.declared.step.Step.TheVariants as steps
use Rattle.pf_machine.proofs.HoldsLaws.{Holds, IsOk}
use Rattle.pf_machine.proofs.AttemptLaws.{with_written, transfer-comes, resume-comes, end_made, made, open-comes}
use Rattle.pf_machine.proofs.StepLaws.{IsNoError, Free, by_living, Still, all-move, step-keeps}
use Rattle.pf_laws.proofs.ApartSteps.{put-put}
use Rattle.pf_laws.proofs.FifoLaws.{found_at}
use Rattle.pf_laws.proofs.WaitLaws.{Follows, Like, CanTry, try-follows, rewritten, AllCanTry, StandsStill, end_of-follows, Lasting, lasting-same, lasting-changed, lasting-drawn, lasting-piped, lasting-flagged, at-set-either}

module _ (s : State Segment ℕ) (is : AllCanTry s) where
  -- what stood in s stands
  abbrev pub Lasts : State Segment ℕ → Type 0
  Lasts t = Lasting s.descriptions s.pipes t.descriptions t.pipes

  still : (t : State Segment ℕ) → Lasts t → (n : ℕ) → StandsStill s t n
  still t l n = record { described = λ d e. l.described n d e; piped = λ d e x f. l.piped d.pipe x f }

  -- a process that has the same descriptors may try what p may
  tries : (t : State Segment ℕ) (p q : Process ℕ) → Lasts t → q.descriptors ≡ p.descriptors → (o : Option (Call ℕ))
      → CanTry s p o → CanTry t q o
  tries t p q l same o h =
      try-follows s t p q o (λ fd. subst (λ (fds : List (Option ℕ)). Follows Like (end_of itself s p fd)
      (or_refuse EBADF (option_and_then (end_at itself t) (at fds fd)))) (sym same)
      (end_of-follows s t p (λ n named. still t l n) fd)) (λ n e. still t l n) h

  -- who waits in t waited before, or may try
  all-either : (t : State Segment ℕ) → Lasts t → ((k : ℕ) (p : Process ℕ) → at t.processes k ≡ Some p
      → (at s.processes k ≡ Some p) ⊎ CanTry t p p.parked) → AllCanTry t
  all-either t l h = record {
    each = λ k p e. ⊎_elim (λ before. tries t p p l refl p.parked (is.each k p before))
        (λ now. now) (h k p e);
  }

  all-same : (t : State Segment ℕ) → Lasts t → t.processes ≡ s.processes → AllCanTry t
  all-same t l same = all-either t l (λ k p e. inl (ap (λ qs. at qs k) (sym same) ∙ e))

  -- another process, or none, in one place
  all-set : (t : State Segment ℕ) → Lasts t → (k : ℕ) (y : Option (Process ℕ)) → t.processes ≡ set s.processes k y
      → ((q : Process ℕ) → y ≡ Some q → CanTry t q q.parked) → AllCanTry t
  all-set t l k y same h = all-either t l (λ j p e. ⊎_elim (λ before. inl before) (λ new. inr (h p new))
      (at-set-either s.processes k j y p (ap (λ qs. at qs j) (sym same) ∙ e)))

  free-can : (t : State Segment ℕ) (q : Process ℕ) → q.parked ≡ None → CanTry t q q.parked
  free-can t q free = subst (λ (o : Option (Call ℕ)). CanTry t q o) (sym free) tt

  -- an outcome in which whoever waits may try, and that is no error
  pub record Good (o : Outcome Segment ℕ) : Type 0 where
    pub can_try : AllCanTry o.state
    pub told : IsNoError o.reply

  good-same : (t : State Segment ℕ) (r : Reply) → Lasts t → t.processes ≡ s.processes → IsNoError r
      → Good (record { state = t; reply = r })
  good-same t r l same fine = record { can_try = all-same t l same; told = fine }

  good-put : (t : State Segment ℕ) (r : Reply) (k : ℕ) (q : Process ℕ) → Lasts t
      → t.processes ≡ set s.processes k (Some q)
      → q.parked ≡ None → IsNoError r → Good (record { state = t; reply = r })
  good-put t r k q l same free fine = record {
    can_try = all-set t l k (Some q) same (λ x e. let both : q ≡ x = cc in
        subst (λ (y : Process ℕ). CanTry t y y.parked) both (free-can t q free));
    told = fine;
  }

  good-clear : (t : State Segment ℕ) (r : Reply) (k : ℕ) → Lasts t → t.processes ≡ set s.processes k None → IsNoError r
      → Good (record { state = t; reply = r })
  good-clear t r k l same fine = record { can_try = all-set t l k None same (λ x e. absurd (cc)); told = fine }

  lasts-s : Lasting s.descriptions s.pipes s.descriptions s.pipes
  lasts-s = lasting-same s.descriptions s.pipes

  -- the process of a pid is another one, that waits in no call
  put : (pid : ℕ) (q : Process ℕ) (r : Reply) → q.parked ≡ None → IsNoError r
      → Good (record { state = with_process s pid q; reply = r })
  put pid q r free fine = good-put (with_process s pid q) r (pid - 1) q lasts-s refl free fine

  born : (q : Process ℕ) → q.parked ≡ None → Good (told (with_process s (first_free s.processes + 1) q)
      (replies.Pid (first_free s.processes + 1)))
  born q free = put (first_free s.processes + 1) q (replies.Pid (first_free s.processes + 1)) free tt

  -- two more descriptions, of one more pipe
  piped-good : (q : ℕ) (p : Process ℕ) (nonblock : Bool) → Free s q p → (slots : ℕ)
      → Good (told
      (opened (length s.descriptions) (length s.descriptions + 1) (length s.pipes) s q nonblock (empty slots) p)
      (replies.Fds (first_descriptor p) (second_descriptor p)))
  piped-good q p nonblock f slots =
      good-put _ (replies.Fds (first_descriptor p) (second_descriptor p))
      (q - 1) (with_two (length s.descriptions) (length s.descriptions + 1) p)
      (lasting-piped s.descriptions _ s.pipes s.pipes (Some (new_pipe (empty slots) p.cred.uid None) ∷ [])
      (lasting-drawn s.descriptions s.descriptions (Some (reading (length s.pipes) nonblock) ∷ Some
      (writing (length s.pipes) nonblock) ∷ []) s.pipes s.pipes lasts-s))
      refl f.free tt

  -- Transfers

  -- as many processes as before, and what stood stands
  pub record Level (t : State Segment ℕ) : Type 0 where
    pub lasts : Lasts t
    pub people : t.processes ≡ s.processes

  level-s : Level s
  level-s = record { lasts = lasts-s; people = refl }

  level-held : (t : State Segment ℕ) (n : ℕ) (x : Queue) → Level t → Level (with_queue t n x)
  level-held t n x l = record {
    lasts = lasting-changed s.descriptions t.descriptions s.pipes t.pipes
        (holding x) n l.lasts;
    people = l.people;
  }

  -- which bytes of a write went in doesn't matter
  rewrites : (p : Process ℕ) (call : Transfer) (n : ℕ) → IsOk (tried s p call) → IsOk (tried s p (with_written n call))
  rewrites p (Reading fd m) n h = h
  rewrites p (Writing fd x written) n h = rewritten s p fd x written n h
  rewrites p (Bringing c source sink m) n h = h

  -- who waited in a place, or was free, waits in a call now that may be tried
  waits-all : (q : ℕ) (o : Option (Call ℕ)) (p : Process ℕ) (t : State Segment ℕ) → at s.processes (q - 1) ≡ Some p
      → Level t
      → CanTry s p o → AllCanTry (change_process (waiting o) t q)
  waits-all q o p t e l h = all-set (change_process (waiting o) t q) l.lasts (q - 1) (Some (waiting o p)) same can
    where
      same : change_at (waiting o) t.processes (q - 1) ≡ set s.processes (q - 1) (Some (waiting o p))
      same = ap (λ (qs : List (Option (Process ℕ))). change_at (waiting o) qs (q - 1)) l.people
          ∙ ap (λ (x : Option (Process ℕ)). set s.processes (q - 1) (option_map (waiting o) x)) e

      can : (x : Process ℕ) → Some (waiting o p) ≡ Some x → CanTry (change_process (waiting o) t q) x x.parked
      can x f =
          let both : waiting o p ≡ x = cc in
          subst (λ (y : Process ℕ). CanTry (change_process (waiting o) t q) y y.parked) both
          (tries (change_process (waiting o) t q) p (waiting o p) l.lasts refl o h)

  transfer-good : (q : ℕ) (p : Process ℕ) → Free s q p → (flag : Bool) (call : Transfer)
      → Holds Good (transfer s q p flag call)
  transfer-good q p f =
      transfer-comes s Level level-s level-held p Good q (λ t r h fine. good-same t r h.lasts h.people fine)
      (λ t call h may n. record {
        can_try = waits-all q (Some (Moving (with_written n call))) p t f.at_place h (rewrites p call n may);
        told = tt;
      })

  abbrev Keeps : Outcome Segment ℕ → Type 0
  Keeps o = AllCanTry o.state

  -- an open has its descriptor, or waits on
  resume-all : (q : ℕ) (p : Process ℕ) → at s.processes (q - 1) ≡ Some p → Holds Keeps (resume s q p)
  resume-all q p e =
      resume-comes s Level level-s level-held p Keeps q (λ t r h. waits-all q None p t e h tt)
      (λ t call h may n. waits-all q (Some (Moving (with_written n call))) p t e h (rewrites p call n may))
      (λ n kept w. let y = with_descriptor (first_free p.descriptors) n p in
      (good-put (change_process (waiting None) (with_process s q y) q) (replies.Num 0) (q - 1) (waiting None y) lasts-s
      (put-put (waiting None) s.processes (q - 1) p y e) refl tt).can_try)
      (λ n kept w. waits-all q (Some (Opening n kept)) p s e level-s
      (subst (λ (o : Option (Call ℕ)). CanTry s p o) w (is.each (q - 1) p e)))

  -- Open

  -- a pipe that is found stands
  pub record IsThere (f : Found Segment ℕ) : Type 0 where
    pub level : Level f.state
    pub drawn : length s.descriptions ≡ length f.state.descriptions
    pub pipe : Pipe Segment
    pub stands : at f.state.pipes f.pipe ≡ Some pipe

  old-there : (n file : ℕ) → fifo_pipe s file ≡ Some n → IsThere (record { state = s; pipe = n })
  old-there n file e = by_pipe (at s.pipes n) refl (found_at file s.pipes n e)
    where
      by_pipe : (o : Option (Pipe Segment)) → at s.pipes n ≡ o
          → option_and_then (λ (x : Pipe Segment). x.file) o ≡ Some file → IsThere (record { state = s; pipe = n })
      by_pipe None f g = absurd (cc)
      by_pipe (Some x) f g = record { level = level-s; drawn = refl; pipe = x; stands = f }

  new-there : (x : Pipe Segment)
      → IsThere (record { state = record s { pipes = s.pipes ++ Some x ∷ [] }; pipe = length s.pipes })
  new-there x = record {
    level = record {
      lasts = lasting-piped s.descriptions s.descriptions s.pipes s.pipes (Some x ∷ []) lasts-s;
      people = refl;
    };
    drawn = refl;
    pipe = x;
    stands = at-push_new s.pipes (Some x);
  }

  module _ (c : Limits) (q : ℕ) (p : Process ℕ) (f : Free s q p) (a : Access) where
    made-lasts : (x : Found Segment ℕ) → IsThere x → Lasts (made a x)
    made-lasts x h =
        lasting-changed s.descriptions (made a x).descriptions s.pipes x.state.pipes (counted a) x.pipe
        (lasting-drawn s.descriptions x.state.descriptions (Some (end_made a x.pipe) ∷ []) s.pipes x.state.pipes
        h.level.lasts)

    -- the description that is made is an end of the pipe
    is_end : (x : Found Segment ℕ) → IsThere x
        → IsOk (or_refuse EBADF (end_at itself (made a x) (length s.descriptions)))
    is_end x h =
        subst (λ (o : Option (Description ℕ)). IsOk {A = End Segment ℕ} (or_refuse EBADF
        (option_and_then (λ d. option_map (λ (y : Pipe Segment). record { description = d; pipe = y })
        (at (made a x).pipes d.pipe)) o)))
        (sym (ap (at (made a x).descriptions) h.drawn ∙ at-push_new x.state.descriptions (Some (end_made a x.pipe))))
        (subst (λ (o : Option (Pipe Segment)). IsOk {A = End Segment ℕ} (or_refuse EBADF
        (option_map (λ (y : Pipe Segment). record { description = end_made a x.pipe; pipe = y }) o)))
        (sym (at-put_same x.state.pipes x.pipe (option_map (counted a) (at x.state.pipes x.pipe))
        (at_within x.state.pipes x.pipe h.pipe h.stands)
        ∙ ap (option_map (counted a)) h.stands)) tt)

    open-good : (path : List ℕ) → Holds Good (open_path itself (length s.descriptions) itself c s q p path a)
    open-good path =
        open-comes s Good c q p a IsThere old-there (λ file there e slots. new-there _)
        (λ x h. good-put _ (replies.Num (first_free p.descriptors)) (q - 1) has (made-lasts x h)
        (ap (λ (qs : List (Option (Process ℕ))). put_at qs (q - 1) has) h.level.people) f.free tt)
        (λ x h kept. record { can_try = waits x h kept; told = tt }) path
      where
        has : Process ℕ
        has = with_descriptor (first_free p.descriptors) (length s.descriptions) p

        waits : (x : Found Segment ℕ) → IsThere x → (kept : ℕ)
            → AllCanTry (parked (made a x) q (Opening (length s.descriptions) kept)).state
        waits x h kept =
            all-set u (made-lasts x h) (q - 1) (Some (w p))
            (ap (λ (qs : List (Option (Process ℕ))). change_at w qs (q - 1)) h.level.people
            ∙ ap (λ (y : Option (Process ℕ)). set s.processes (q - 1) (option_map w y)) f.at_place)
            (λ y e. let both : w p ≡ y = cc in
            subst (λ (z : Process ℕ). CanTry u z z.parked) both (is_end x h))
          where
            w : Process ℕ → Process ℕ
            w = waiting (Some (Opening (length s.descriptions) kept))

            u : State Segment ℕ
            u = change_process w (made a x) q

  -- Steps

  still-good : Still s Good
  still-good = record {
    spawned = λ cred. born _ refl;
    forked = λ pid p f. born p f.free;
    exited = λ pid p l. good-clear _ (replies.Num 0) (pid - 1) lasts-s refl tt;
    duped = λ pid p fd n f e. put pid _ (replies.Num (first_free p.descriptors)) f.free tt;
    closed = λ pid p fd f. put pid _ (replies.Num 0) f.free tt;
    flagged = λ n on. good-same _ (replies.Num 0) (lasting-flagged s.descriptions s.pipes on n) refl tt;
    piped = piped-good;
    sized = λ p fd e h pages. good-same (with_queue s e.description.pipe _) (replies.Num _)
        (lasting-changed s.descriptions s.descriptions s.pipes s.pipes (holding _) e.description.pipe lasts-s) refl tt;
    looked = λ r fine short. good-same s r lasts-s refl fine;
    made = λ c kind path mode files e. good-same _ (replies.Num 0) lasts-s refl tt;
    filed = λ c files how. good-same _ (replies.Num 0) lasts-s refl tt;
    opened = λ c pid p path a f. open-good c pid p f a path;
  }

  -- what a Resume comes to may be an error, that of its call
  abbrev pub GoodOf : Step → Outcome Segment ℕ → Type 0
  GoodOf (steps.Resume pid) o = AllCanTry o.state
  GoodOf _ o = Good o

  pub good : (c : Limits) (step : Step) → Holds (GoodOf step) (call c s step)
  good c (steps.Resume pid) = by_living s Keeps pid _ (λ p l. resume-all pid p l.at_place)
  good c x =
      step-keeps s Good still-good c x (all-move s Good (λ pid p flag call f. transfer-good pid p f flag call)
      (λ names. good-same s (replies.Names names) lasts-s refl tt) x tt)

  pub can-try : (step : Step) (o : Outcome Segment ℕ) → GoodOf step o → AllCanTry o.state
  can-try (steps.Resume pid) o h = h
  can-try step o h = h.can_try
