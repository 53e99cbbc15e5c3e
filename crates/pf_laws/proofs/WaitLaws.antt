-- Whoever waits in a call can try it again: what the call needs stands as long as it waits.

use Rattle.std.proofs.Common.{◌≡◌, ℕ, zero, suc, ◌<◌, Bool, true, false, not, List, [], ◌∷◌, ◌++◌, length, set, Option, Some, None, Ok, Err, refl, sym, ap, ◌∙◌, subst, ◌⊎◌, inl, inr, arith, nat_eq, nat_lt, if◌then◌else◌}
use Rattle.std.proofs.lemmas.Bool.{eq-eqb}
use Rattle.std.proofs.lemmas.Bool.Decides.{nat_tests}
use Rattle.std.proofs.lemmas.List.{get_or_append_left}
use Rattle.std.specs.Prelude.{Result, ⊤}
use Rattle.std.specs.Option.{option_map, option_and_then}
use Rattle.pf_machine.specs.Refusals.{◌>>=◌, ◌>>◌, refuse_if, or_refuse}
use Rattle.pf_machine.specs.Queue.{Segment}
use Rattle.pf_machine.specs.Numbered.{at, change_at, weight, one_if}
use Rattle.pf_machine.proofs.NumberedLaws.{at_within, at-keep, weight-le-sum_of}
use Rattle.pf_machine.specs.Calls.{Transfer, Reading, Writing, Bringing, Call, Opening, Moving, made_by}
use Rattle.pf_machine.specs.State.{itself, State, Process, Description, Pipe, End, end_at, end_of, reading_end, writing_end}
use Rattle.pf_machine.specs.Counts.{named_in, names_of, names, ends}
use Rattle.pf_machine.specs.Sweep.{live_descriptions, sweep}
use Rattle.pf_machine.specs.Descriptors.{with_nonblocking}
use Rattle.pf_machine.specs.Transfers.{Ends, tried, try_read, try_write, two_ends, try_cross}
use Rattle.pf_machine.proofs.HoldsLaws.{IsOk}
use Rattle.pf_base.specs.declared.TheConstants.{MAX_WRITE}
use Rattle.pf_base.specs.declared.errno.Errno.{Errno}
use Rattle.pf_base.specs.declared.errno.Errno.TheVariants.{EBADF, EINVAL}

-- Results

-- where the first gives something, the second gives something like it
abbrev pub Follows : {A B : Type 0} → (A → B → Type 0) → Result A Errno → Result B Errno → Type 0
Follows R (Ok x) (Ok y) = R x y
Follows R (Ok x) (Err e) = ⊥
Follows R (Err e) r = ⊤

pub ok-follows : {A B : Type 0} (R : A → B → Type 0) (r : Result A Errno) (q : Result B Errno) → Follows R r q
    → IsOk r → IsOk q
ok-follows R (Ok x) (Ok y) h is = tt
ok-follows R (Ok x) (Err e) h is = absurd h
ok-follows R (Err e) q h is = absurd is

follows-then : {A B C D : Type 0} (R : A → B → Type 0) (S : C → D → Type 0) (r : Result A Errno) (q : Result B Errno)
    (f : A → Result C Errno) (g : B → Result D Errno)
    → Follows R r q → ((x : A) (y : B) → R x y → Follows S (f x) (g y)) → Follows S (r >>= f) (q >>= g)
follows-then R S (Ok x) (Ok y) f g h k = k x y h
follows-then R S (Ok x) (Err e) f g h k = absurd h
follows-then R S (Err e) q f g h k = tt

-- the same test
follows-unless : {A B : Type 0} (R : A → B → Type 0) (b d : Bool) (e : Errno) (r : Result A Errno)
    (q : Result B Errno) → b ≡ d → Follows R r q → Follows R (refuse_if b e >> r) (refuse_if d e >> q)
follows-unless R b d e r q same h =
    subst (λ (z : Bool). Follows R (refuse_if b e >> r) (refuse_if z e >> q)) same (by_test b)
  where
    by_test : (z : Bool) → Follows R (refuse_if z e >> r) (refuse_if z e >> q)
    by_test true = tt
    by_test false = h

-- Ends

-- an end of the same pipe and for the same sides
pub record Like (e f : End Segment ℕ) : Type 0 where
  pub pipe : e.description.pipe ≡ f.description.pipe
  pub reads : e.description.reads ≡ f.description.reads
  pub writes : e.description.writes ≡ f.description.writes

-- of two ends
pub record BothLike (e f : Ends) : Type 0 where
  pub source : Like e.source f.source
  pub sink : Like e.sink f.sink

abbrev Any : {A B : Type 0} → A → B → Type 0
Any x y = ⊤

module _ (s t : State Segment ℕ) where
  -- what stands in s at a number, and its pipe, stand in t
  pub record StandsStill (n : ℕ) : Type 0 where
    pub described : (d : Description ℕ) → at s.descriptions n ≡ Some d
        → (b : Bool) × (at t.descriptions n ≡ Some (with_nonblocking b d))
    pub piped : (d : Description ℕ) → at s.descriptions n ≡ Some d → (x : Pipe Segment) → at s.pipes d.pipe ≡ Some x
        → (y : Pipe Segment) × (at t.pipes d.pipe ≡ Some y)

  pub end_at-follows : (n : ℕ) → StandsStill n → Follows Like (or_refuse EBADF (end_at itself s n))
      (or_refuse EBADF (end_at itself t n))
  end_at-follows n h = by_description (at s.descriptions n) refl
    where
      end : Description ℕ → Pipe Segment → End Segment ℕ
      end d x = record { description = d; pipe = x }

      by_pipe : (d : Description ℕ) (b : Bool) (o : Option (Pipe Segment))
          → ((x : Pipe Segment) → o ≡ Some x → (y : Pipe Segment) × (at t.pipes d.pipe ≡ Some y))
          → Follows Like (or_refuse EBADF (option_map (λ (x : Pipe Segment). record { description = d; pipe = x }) o))
          (or_refuse EBADF (option_map (λ (x : Pipe Segment). record {
            description = with_nonblocking b d;
            pipe = x;
          }) (at t.pipes d.pipe)))
      by_pipe d b None k = tt
      by_pipe d b (Some x) k =
          subst (λ (o : Option (Pipe Segment)). Follows Like (Ok (record { description = d; pipe = x }))
          (or_refuse EBADF (option_map (λ (x : Pipe Segment). record {
            description = with_nonblocking b d;
            pipe = x;
          }) o))) (sym (k x refl).1)
          (record { pipe = refl; reads = refl; writes = refl })

      by_description : (o : Option (Description ℕ)) → at s.descriptions n ≡ o
          → Follows Like (or_refuse EBADF (option_and_then
          (λ d. option_map (λ (x : Pipe Segment). record { description = d; pipe = x }) (at s.pipes d.pipe)) o))
          (or_refuse EBADF (end_at itself t n))
      by_description None e = tt
      by_description (Some d) e =
          let here = h.described d e in
          subst (λ (o : Option (Description ℕ)). Follows Like (or_refuse EBADF
          (option_map (λ (x : Pipe Segment). record { description = d; pipe = x }) (at s.pipes d.pipe)))
          (or_refuse EBADF (option_and_then (λ d. option_map
          (λ (x : Pipe Segment). record { description = d; pipe = x }) (at t.pipes d.pipe)) o)))
          (sym here.1) (by_pipe d here.0 (at s.pipes d.pipe) (h.piped d e))

  -- all that a process names
  abbrev pub AllStill : Process ℕ → Type 0
  AllStill p = (n : ℕ) → 0 < named_in itself n (names_of p) → StandsStill n

  named-one : (n : ℕ) → one_if (nat_eq n n) ≡ 1
  named-one n = ap one_if (eq-eqb n n refl)

  pub end_of-follows : (p : Process ℕ) → AllStill p → (fd : ℕ)
      → Follows Like (end_of itself s p fd) (end_of itself t p fd)
  end_of-follows p h fd = by_number (at p.descriptors fd) refl
    where
      by_number : (o : Option ℕ) → at p.descriptors fd ≡ o → Follows Like
          (or_refuse EBADF (option_and_then (end_at itself s) o))
          (or_refuse EBADF (option_and_then (end_at itself t) o))
      by_number None e = tt
      by_number (Some n) e =
          let less = weight-le-sum_of (λ m. one_if (nat_eq m n)) p.descriptors fd in
          let one : weight (λ m. one_if (nat_eq m n)) (at p.descriptors fd) ≡ 1 =
          ap (weight (λ m. one_if (nat_eq m n))) e ∙ named-one n in
          end_at-follows n (h n (omega (arith, less, one)))

  -- of two processes that have the same ends
  module _ (p q : Process ℕ) (ends : (fd : ℕ) → Follows Like (end_of itself s p fd) (end_of itself t q fd)) where
    reading_end-follows : (fd : ℕ) → Follows Like (reading_end itself s p fd) (reading_end itself t q fd)
    reading_end-follows fd =
        follows-then Like Like (end_of itself s p fd) (end_of itself t q fd) (λ e. refuse_if
        (not e.description.reads) EBADF >> Ok e) (λ e. refuse_if (not e.description.reads) EBADF >> Ok e) (ends fd)
        (λ e f k. follows-unless Like (not e.description.reads) (not f.description.reads) EBADF (Ok e) (Ok f)
        (ap not k.reads) k)

    writing_end-follows : (fd : ℕ) → Follows Like (writing_end itself s p fd) (writing_end itself t q fd)
    writing_end-follows fd =
        follows-then Like Like (end_of itself s p fd) (end_of itself t q fd) (λ e. refuse_if
        (not e.description.writes) EBADF >> Ok e) (λ e. refuse_if (not e.description.writes) EBADF >> Ok e) (ends fd)
        (λ e f k. follows-unless Like (not e.description.writes) (not f.description.writes) EBADF (Ok e) (Ok f)
        (ap not k.writes) k)

    two_ends-follows : (source sink : ℕ) → Follows BothLike (two_ends s p source sink) (two_ends t q source sink)
    two_ends-follows source sink =
        follows-then Like BothLike (reading_end itself s p source) (reading_end itself t q source)
        (λ i. writing_end itself s p sink
        >>= (λ o. refuse_if (nat_eq i.description.pipe o.description.pipe) EINVAL >> Ok
        (record { source = i; sink = o })))
        (λ i. writing_end itself t q sink
        >>= (λ o. refuse_if (nat_eq i.description.pipe o.description.pipe) EINVAL >> Ok
        (record { source = i; sink = o })))
        (reading_end-follows source) (λ i j k.
        follows-then Like BothLike (writing_end itself s p sink) (writing_end itself t q sink)
        (λ o. refuse_if (nat_eq i.description.pipe o.description.pipe) EINVAL >> Ok (record { source = i; sink = o }))
        (λ o. refuse_if (nat_eq j.description.pipe o.description.pipe) EINVAL >> Ok (record { source = j; sink = o }))
        (writing_end-follows sink) (λ o u l.
        follows-unless BothLike (nat_eq i.description.pipe o.description.pipe)
        (nat_eq j.description.pipe u.description.pipe) EINVAL (Ok (record { source = i; sink = o }))
        (Ok (record { source = j; sink = u }))
        (ap (λ m. nat_eq m o.description.pipe) k.pipe ∙ ap (λ m. nat_eq j.description.pipe m) l.pipe)
        (record { source = k; sink = l })))

    pub tried-follows : (call : Transfer) → Follows Any (tried s p call) (tried t q call)
    tried-follows (Reading fd n) =
        follows-then Like Any (reading_end itself s p fd) (reading_end itself t q fd) (λ e. Ok (try_read s e n))
        (λ e. Ok (try_read t e n)) (reading_end-follows fd) (λ e f k. tt)
    tried-follows (Writing fd x written) =
        follows-then Like Any (writing_end itself s p fd) (writing_end itself t q fd)
        (λ e. refuse_if (nat_lt MAX_WRITE (length x)) EINVAL >> Ok (try_write s e x written))
        (λ e. refuse_if (nat_lt MAX_WRITE (length x)) EINVAL >> Ok (try_write t e x written)) (writing_end-follows fd)
        (λ e f k. follows-unless Any (nat_lt MAX_WRITE (length x)) (nat_lt MAX_WRITE (length x)) EINVAL
        (Ok (try_write s e x written)) (Ok (try_write t f x written)) refl tt)
    tried-follows (Bringing c source sink n) =
        follows-then BothLike Any (two_ends s p source sink) (two_ends t q source sink) (λ e. Ok (try_cross c s e n))
        (λ e. Ok (try_cross c t e n)) (two_ends-follows source sink) (λ e f k. tt)

-- Calls

-- a call in which a process waits may be tried: nothing of it is refused but what comes of trying
abbrev pub CanTry : State Segment ℕ → Process ℕ → Option (Call ℕ) → Type 0
CanTry s p None = ⊤
CanTry s p (Some (Opening n kept)) = IsOk (or_refuse EBADF (end_at itself s n))
CanTry s p (Some (Moving call)) = IsOk (tried s p call)

-- where the ends that a process has in s are like those that another has in t, it may try what the first may
pub try-follows : (s t : State Segment ℕ) (p q : Process ℕ) (o : Option (Call ℕ))
    → ((fd : ℕ) → Follows Like (end_of itself s p fd) (end_of itself t q fd))
    → ((n : ℕ) → made_by o ≡ Some n → StandsStill s t n)
    → CanTry s p o → CanTry t q o
try-follows s t p q None ends still h = tt
try-follows s t p q (Some (Opening n kept)) ends still h =
    ok-follows Like (or_refuse EBADF (end_at itself s n)) (or_refuse EBADF (end_at itself t n))
    (end_at-follows s t n (still n refl)) h
try-follows s t p q (Some (Moving call)) ends still h =
    ok-follows Any (tried s p call) (tried t q call) (tried-follows s t p q ends call) h

-- a write may be tried also where more of its bytes went in
pub rewritten : (s : State Segment ℕ) (p : Process ℕ) (fd : ℕ) (x : List ℕ) (written more : ℕ)
    → IsOk (tried s p (Writing fd x written)) → IsOk (tried s p (Writing fd x more))
rewritten s p fd x written more = by_end (writing_end itself s p fd)
  where
    by_test : (e : End Segment ℕ) (b : Bool) → IsOk (refuse_if b EINVAL >> Ok (try_write s e x written))
        → IsOk (refuse_if b EINVAL >> Ok (try_write s e x more))
    by_test e true h = h
    by_test e false h = tt

    by_end : (r : Result (End Segment ℕ) Errno)
        → IsOk (r >>= (λ e. refuse_if (nat_lt MAX_WRITE (length x)) EINVAL >> Ok (try_write s e x written)))
        → IsOk (r >>= (λ e. refuse_if (nat_lt MAX_WRITE (length x)) EINVAL >> Ok (try_write s e x more)))
    by_end (Ok e) h = by_test e (nat_lt MAX_WRITE (length x)) h
    by_end (Err e) h = h

-- whoever waits may try
pub record AllCanTry (s : State Segment ℕ) : Type 0 where
  pub each : (k : ℕ) (p : Process ℕ) → at s.processes k ≡ Some p → CanTry s p p.parked

-- What stood stands

abbrev pub Pipes : Type 0
Pipes = List (Option (Pipe Segment))

-- each description, which may have another O_NONBLOCK, and each pipe
pub record Lasting (ds : List (Option (Description ℕ))) (ps : Pipes) (es : List (Option (Description ℕ)))
    (qs : Pipes) : Type 0 where
  pub described : (n : ℕ) (d : Description ℕ) → at ds n ≡ Some d → (b : Bool) × (at es n ≡ Some (with_nonblocking b d))
  pub piped : (n : ℕ) (x : Pipe Segment) → at ps n ≡ Some x → (y : Pipe Segment) × (at qs n ≡ Some y)

pub lasting-same : (ds : List (Option (Description ℕ))) (ps : Pipes) → Lasting ds ps ds ps
lasting-same ds ps = record { described = λ n d e. (d.nonblocking, e); piped = λ n x e. (x, e) }

pub lasting-changed : (ds es : List (Option (Description ℕ))) (ps qs : Pipes) (f : Pipe Segment → Pipe Segment) (n : ℕ)
    → Lasting ds ps es qs → Lasting ds ps es (change_at f qs n)
lasting-changed ds es ps qs f n l =
    record { described = l.described; piped = λ m x e. let y = l.piped m x e in changed qs n m y.0 y.1 }
  where
    changed : (qs : Pipes) (n m : ℕ) (y : Pipe Segment) → at qs m ≡ Some y
        → (z : Pipe Segment) × (at (change_at f qs n) m ≡ Some z)
    changed [] n m y e = absurd (cc)
    changed (q ∷ qs) zero zero y e = (f y, ap (option_map f) e)
    changed (q ∷ qs) zero (suc m) y e = (y, e)
    changed (q ∷ qs) (suc n) zero y e = (y, e)
    changed (q ∷ qs) (suc n) (suc m) y e = changed qs n m y e

-- more of them
appended : {X : Type 0} (xs ys : List (Option X)) (n : ℕ) (x : X) → at xs n ≡ Some x → at (xs ++ ys) n ≡ Some x
appended xs ys n x e = get_or_append_left xs ys None n (at_within xs n x e) ∙ e

pub lasting-drawn : (ds es more : List (Option (Description ℕ))) (ps qs : Pipes) → Lasting ds ps es qs
    → Lasting ds ps (es ++ more) qs
lasting-drawn ds es more ps qs l =
    record {
      described = λ n d e. let h = l.described n d e in
          (h.0, appended es more n (with_nonblocking h.0 d) h.1);
      piped = l.piped;
    }

pub lasting-piped : (ds es : List (Option (Description ℕ))) (ps qs more : Pipes) → Lasting ds ps es qs
    → Lasting ds ps es (qs ++ more)
lasting-piped ds es ps qs more l =
    record { described = l.described; piped = λ n x e. let h = l.piped n x e in (h.0, appended qs more n h.0 h.1) }

pub lasting-flagged : (ds : List (Option (Description ℕ))) (ps : Pipes) (on : Bool) (n : ℕ)
    → Lasting ds ps (change_at (with_nonblocking on) ds n) ps
lasting-flagged ds ps on n = record { described = λ m d e. flagged ds n m d e; piped = λ m x e. (x, e) }
  where
    flagged : (ds : List (Option (Description ℕ))) (n m : ℕ) (d : Description ℕ) → at ds m ≡ Some d
        → (b : Bool) × (at (change_at (with_nonblocking on) ds n) m ≡ Some (with_nonblocking b d))
    flagged [] n m d e = absurd (cc)
    flagged (x ∷ ds) zero zero d e = (on, ap (option_map (with_nonblocking on)) e)
    flagged (x ∷ ds) zero (suc m) d e = (d.nonblocking, e)
    flagged (x ∷ ds) (suc n) zero d e = (d.nonblocking, e)
    flagged (x ∷ ds) (suc n) (suc m) d e = flagged ds n m d e

-- The sweep

-- a place of a list that was set has what is new or what it had
pub at-set-either : {X : Type 0} (xs : List (Option X)) (k j : ℕ) (y : Option X) (x : X) → at (set xs k y) j ≡ Some x
    → (at xs j ≡ Some x) ⊎ (y ≡ Some x)
at-set-either [] k j y x e = absurd (cc)
at-set-either (z ∷ xs) zero zero y x e = inr e
at-set-either (z ∷ xs) zero (suc j) y x e = inl e
at-set-either (z ∷ xs) (suc k) zero y x e = inl e
at-set-either (z ∷ xs) (suc k) (suc j) y x e = at-set-either xs k j y x e

-- it takes nothing that a process names
sweep-still : (s : State Segment ℕ) (k : ℕ) (p : Process ℕ) → at s.processes k ≡ Some p → AllStill s (sweep itself s) p
sweep-still s k p here n named = record {
  described = λ d e. (d.nonblocking, kept d e);
  piped = λ d e x f. (
    x,
    at-keep (λ m. nat_lt 0 (ends itself ds m)) s.pipes d.pipe
        ∙ ap (λ b. if b then at s.pipes d.pipe else None) (used d e) ∙ f,
  );
}
  where
    ds : List (Option (Description ℕ))
    ds = live_descriptions itself s.processes s.descriptions

    is_named : nat_lt 0 (names itself s.processes n) ≡ true
    is_named =
        let less = weight-le-sum_of (λ (q : Process ℕ). named_in itself n (names_of q)) s.processes k in
        let one : weight (λ (q : Process ℕ). named_in itself n (names_of q)) (at s.processes k)
        ≡ named_in itself n (names_of p) =
        ap (weight (λ (q : Process ℕ). named_in itself n (names_of q))) here in
        let more : 0 < names itself s.processes n = omega (arith, less, one, named) in
        grind (arith, nat_tests)

    kept : (d : Description ℕ) → at s.descriptions n ≡ Some d → at ds n ≡ Some d
    kept d e = at-keep (λ m. nat_lt 0 (names itself s.processes m)) s.descriptions n
        ∙ ap (λ b. if b then at s.descriptions n else None) is_named ∙ e

    used : (d : Description ℕ) → at s.descriptions n ≡ Some d → nat_lt 0 (ends itself ds d.pipe) ≡ true
    used d e =
        let less = weight-le-sum_of (λ (x : Description ℕ). one_if (nat_eq x.pipe d.pipe)) ds n in
        let one : weight (λ (x : Description ℕ). one_if (nat_eq x.pipe d.pipe)) (at ds n) ≡ one_if
        (nat_eq d.pipe d.pipe) = ap (weight (λ (x : Description ℕ). one_if (nat_eq x.pipe d.pipe))) (kept d e) in
        let more : 0 < ends itself ds d.pipe = omega (arith, less, one, ap one_if (eq-eqb d.pipe d.pipe refl)) in
        grind (arith, nat_tests)

-- what a parked open has made is named
made-named : (p : Process ℕ) (n : ℕ) → made_by p.parked ≡ Some n → 0 < named_in itself n (names_of p)
made-named p n e =
    let one : weight (λ m. one_if (nat_eq m n)) (made_by p.parked) ≡ one_if (nat_eq n n) =
    ap (weight (λ m. one_if (nat_eq m n))) e in
    omega (arith, one, ap one_if (eq-eqb n n refl))

still-try : (s t : State Segment ℕ) (p : Process ℕ) → AllStill s t p → CanTry s p p.parked → CanTry t p p.parked
still-try s t p h is = try-follows s t p p p.parked (end_of-follows s t p h) (λ n e. h n (made-named p n e)) is

pub sweep-all : (s : State Segment ℕ) → AllCanTry s → AllCanTry (sweep itself s)
sweep-all s is = record { each = λ k p e. still-try s (sweep itself s) p (sweep-still s k p e) (is.each k p e) }
