-- The same of opens: also with the name that the description gets, and that of the pipe that it is an end of.

use Rattle.std.proofs.Common.{◌≡◌, ℕ, ◌+◌, ◌-◌, ◌&&◌, Bool, true, false, not, List, [], ◌∷◌, ◌++◌, length, nat_le, nat_lt, nat_eq, Option, Some, None, Result, Ok, Err, refl, sym, ap, ◌∙◌, if◌then◌else◌}
use Rattle.std.specs.Option.{option_map}
use Rattle.std.proofs.lemmas.List.{map-append, length-map}
use Rattle.pf_base.specs.Capacities.{new_capacity, told_as}
use Rattle.pf_base.specs.Limits.{Limits}
use Rattle.pf_base.specs.Permissions.{is_privileged}
use Rattle.pf_machine.specs.Refusals.{◌>>=◌, ◌>>◌, refuse_if}
use Rattle.pf_machine.specs.Numbered.{at, put_at, first_free, sum_of, one_if}
use Rattle.pf_machine.proofs.NumberedLaws.{at-map, first_free-map, sum_of-map}
use Rattle.pf_base.specs.declared.TheConstants.{MAX_MADE, MAX_DESCRIPTORS}
use Rattle.pf_base.specs.declared.errno.Errno.{Errno}
use Rattle.pf_base.specs.declared.errno.Errno.TheVariants.{EAGAIN, ENXIO, ENOMEM, ENFILE, EMFILE}
use Rattle.pf_base.specs.declared.step.Reply.TheVariants.{Num, Parked}
use Rattle.pf_machine.specs.Queue.{empty}
use Rattle.pf_machine.specs.Calls.{Call, Opening, Moving, written_of}
use Rattle.pf_machine.specs.State.{Process, Description, Pipe, State, Outcome, with_descriptor, change_pipe, waiting, told}
use Rattle.pf_machine.specs.Counts.{readers, writers, charged, total}
use Rattle.pf_machine.specs.Pipes.{new_pipe}
use Rattle.pf_machine.specs.Attempts.{Attempt, Finished, Waits, given, first, unwaiting}
use Rattle.pf_machine.specs.Opens.{Access, is_waiting, is_of_file, fifo_pipe, fifo_readers, Found, pipe_of, counted, kept_by, openable, open_pipe, open_fifo, open_path}
use Rattle.pf_machine.specs.Maps.{if_ok, each, pipe_as, call_as, process_as, description_as, state_as, outcome_as, attempt_as}
use Rattle.pf_machine.proofs.MapLaws.{change_at-map, first_where-map, then-as, bind-as, bind-same}
use Rattle.pf_machine.proofs.Natural.{with_descriptor-as, with_process-as}

module _ {X Y : Type 0} (f : X → Y) {N M : Type 0} (g : N → M) where
  abbrev S : State X N → State Y M
  S = state_as f g

  abbrev O : Outcome X N → Outcome Y M
  O = outcome_as f g

  abbrev A : Attempt X N → Attempt Y M
  A = attempt_as f g

  abbrev F : Found X N → Found Y M
  F x = record { state = S x.state; pipe = x.pipe }

  -- The FIFO's pipe

  fifo_pipe-as : (s : State X N) (file : ℕ) → fifo_pipe (S s) file ≡ fifo_pipe s file
  fifo_pipe-as s file = first_where-map (pipe_as f) (λ p. is_of_file file p.file) s.pipes

  pipe_of-as : (c : Limits) (s : State X N) (p : Process N) (file : ℕ) (o : Option ℕ)
      → pipe_of c (S s) (process_as g p) file o ≡ if_ok F (pipe_of c s p file o)
  pipe_of-as c s p file (Some n) = refl
  pipe_of-as c s p file None =
      (λ i. shape (length-map s.pipes (option_map (pipe_as f)) i)
      (sum_of-map (pipe_as f) (λ q. if nat_eq q.owner p.cred.uid then q.queue.capacity else 0) s.pipes i)
      (sum_of-map (pipe_as f) (λ q. q.queue.capacity) s.pipes i))
      ∙ then-as F _ _ _ (bind-same F
      (told_as ENOMEM (new_capacity c (is_privileged p.cred) (charged s p.cred.uid) (total s))) _ _
      (λ slots i. Ok (with_pipes (sym (map-append (option_map (pipe_as f)) s.pipes (one_pipe slots)) i))))
    where
      one_pipe : ℕ → List (Option (Pipe X))
      one_pipe slots = Some (new_pipe (empty slots) p.cred.uid (Some file)) ∷ []

      with_pipes : List (Option (Pipe Y)) → Found Y M
      with_pipes ps = record { state = record (S s) { pipes = ps }; pipe = length s.pipes }

      shape : (m user all : ℕ) → Result (Found Y M) Errno
      shape m user all =
          refuse_if (nat_lt MAX_MADE (m + 1)) ENFILE
          >> (told_as ENOMEM (new_capacity c (is_privileged p.cred) user all) >>= (λ slots. Ok (record {
            state = record (S s) { pipes = (S s).pipes ++ Some (new_pipe (empty slots) p.cred.uid (Some file)) ∷ [] };
            pipe = m;
          })))

  -- The first attempt

  pub given-as : (s : State X N) (pid : ℕ) (p : Process N) (n : N)
      → given (S s) pid (process_as g p) (g n) ≡ A (given s pid p n)
  given-as s pid p n =
      ap (λ m. Finished (with (with_descriptor m (g n) (process_as g p))) (Num m)) (first_free-map g p.descriptors)
      ∙ ap (λ t. Finished t (Num free))
      (ap with (with_descriptor-as g free n p) ∙ with_process-as f g s pid (with_descriptor free n p))
    where
      free : ℕ
      free = first_free p.descriptors

      with : Process M → State Y M
      with q = record (S s) { processes = put_at (S s).processes (pid - 1) q }

  written_of-as : (call : Call N) → written_of (call_as g call) ≡ written_of call
  written_of-as (Opening n kept) = refl
  written_of-as (Moving transfer) = refl

  unwaiting-as : (s : State X N) (b : Bool) (n : ℕ)
      → (if b then Err EAGAIN else Ok (told (S s) (Num n))) ≡ if_ok O (if b then Err EAGAIN else Ok (told s (Num n)))
  unwaiting-as s true n = refl
  unwaiting-as s false n = refl

  pub first-as : (pid : ℕ) (b : Bool) (a : Attempt X N) → first pid b (A a) ≡ if_ok O (first pid b a)
  first-as pid b (Finished s reply) = refl
  first-as pid true (Waits s call) =
      ap (unwaiting (S s)) (written_of-as call) ∙ unwaiting-as s (nat_eq (written_of call) 0) (written_of call)
  first-as pid false (Waits s call) =
      ap (λ xs. Ok (told (record (S s) { processes = xs }) Parked))
      (sym (change_at-map (process_as g) (waiting (Some call)) (waiting (Some (call_as g call))) (λ p. refl)
      s.processes (pid - 1)))

  -- What follows names

  module _ (v : N → ℕ) (w : M → ℕ) (same : (n : N) → w (g n) ≡ v n) where
    sides-as : (side : Bool → Bool → Bool) (ds : List (Option (Description N))) (n : ℕ)
        → sum_of (λ d. one_if (nat_eq (w d.pipe) n && side d.reads d.writes)) (each (description_as g) ds)
        ≡ sum_of (λ d. one_if (nat_eq (v d.pipe) n && side d.reads d.writes)) ds
    sides-as side [] n = refl
    sides-as side (None ∷ ds) n = ap (λ m. 0 + m) (sides-as side ds n)
    sides-as side (Some d ∷ ds) n =
        λ i. one_if (nat_eq (same d.pipe i) n && side d.reads d.writes) + sides-as side ds n i

    pub readers-as : (s : State X N) (n : ℕ) → readers w (S s) n ≡ readers v s n
    readers-as s n = sides-as (λ r x. r) s.descriptions n

    pub writers-as : (s : State X N) (n : ℕ) → writers w (S s) n ≡ writers v s n
    writers-as s n = sides-as (λ r x. x) s.descriptions n

    fifo_readers-as : (s : State X N) (o : Option ℕ) → fifo_readers w (S s) o ≡ fifo_readers v s o
    fifo_readers-as s None = refl
    fifo_readers-as s (Some n) = readers-as s n

    module _ (name of : N) (a : Access) (pid n : ℕ) (s : State X N) (p : Process N) where
      abbrev d : Description N
      d = record { pipe = of; reads = a.reads; writes = a.writes; nonblocking = a.nonblock }

      abbrev made : State X N
      made = change_pipe (counted a) (record s { descriptions = s.descriptions ++ Some d ∷ [] }) n

      kept-as : (o : Option (Pipe X)) → kept_by a (option_map (pipe_as f) o) ≡ kept_by a o
      kept-as None = refl
      kept-as (Some q) = refl

      kept_is : kept_by a (at (S s).pipes n) ≡ kept_by a (at s.pipes n)
      kept_is = ap (kept_by a) (at-map (pipe_as f) s.pipes n) ∙ kept-as (at s.pipes n)

      abbrev drawn : State Y M
      drawn = record (S s) { descriptions = (S s).descriptions ++ Some (description_as g d) ∷ [] }

      made-as : change_pipe (counted a) drawn n ≡ S made
      made-as = λ i. record (S s) {
        descriptions = sym (map-append (option_map (description_as g)) s.descriptions (Some d ∷ [])) i;
        pipes = sym (change_at-map (pipe_as f) (counted a) (counted a) (λ q. refl) s.pipes n) i;
      }

      abbrev ends_as : Bool → State Y M → ℕ → Attempt Y M
      ends_as b t kept = if b then Waits t (Opening (g name) kept) else given t pid (process_as g p) (g name)

      by_wait : (b : Bool) → ends_as b (S made) (kept_by a (at s.pipes n)) ≡ A (
          if b then Waits made (Opening name (kept_by a (at s.pipes n))) else given made pid p name
          )
      by_wait true = refl
      by_wait false = given-as made pid p name

      pub open_pipe-as :
          open_pipe w (g name) (g of) (S s) pid (process_as g p) a n ≡ A (open_pipe v name of s pid p a n)
      open_pipe-as =
          (λ i. ends_as (is_waiting a (readers-as s n i) (writers-as s n i)) (made-as i) (kept_is i))
          ∙ by_wait (is_waiting a (readers v s n) (writers v s n))

    pub open_fifo-as : (name : N) (of : ℕ → N) (to : ℕ → M) → ((n : ℕ) → to n ≡ g (of n))
        → (c : Limits) (s : State X N) (pid : ℕ) (p : Process N) (a : Access) (file : ℕ)
        → open_fifo w (g name) to c (S s) pid (process_as g p) a file ≡ if_ok O (open_fifo v name of c s pid p a file)
    open_fifo-as name of to names c s pid p a file =
        (λ i. shape (first_free-map g p.descriptors i) (readers_are i)
        (length-map s.descriptions (option_map (description_as g)) i) (fifo_pipe-as s file i))
        ∙ then-as O (refuse_if full EMFILE) (refuse_if unread ENXIO >> (refuse_if spent ENFILE >> books)) _
        (then-as O (refuse_if unread ENXIO) (refuse_if spent ENFILE >> books) _
        (then-as O (refuse_if spent ENFILE) books _
        (ap (λ r. r >>= opens) (pipe_of-as c s p file (fifo_pipe s file))
        ∙ bind-as F O (pipe_of c s p file (fifo_pipe s file)) _ opens (λ x.
        ap (λ q. first pid false (open_pipe w (g name) q (S x.state) pid (process_as g p) a x.pipe)) (names x.pipe)
        ∙ ap (first pid false) (open_pipe-as name (of x.pipe) a pid x.pipe x.state p)
        ∙ first-as pid false (open_pipe v name (of x.pipe) x.state pid p a x.pipe)))))
      where
        full : Bool
        full = nat_le MAX_DESCRIPTORS (first_free p.descriptors)

        unread : Bool
        unread = a.writes && not a.reads && a.nonblock && nat_eq (fifo_readers v s (fifo_pipe s file)) 0

        spent : Bool
        spent = nat_lt MAX_MADE (length s.descriptions + 1)

        readers_are : fifo_readers w (S s) (fifo_pipe (S s) file) ≡ fifo_readers v s (fifo_pipe s file)
        readers_are = ap (fifo_readers w (S s)) (fifo_pipe-as s file) ∙ fifo_readers-as s (fifo_pipe s file)

        books : Result (Outcome X N) Errno
        books =
            pipe_of c s p file (fifo_pipe s file)
            >>= (λ x. first pid false (open_pipe v name (of x.pipe) x.state pid p a x.pipe))

        opens : Found Y M → Result (Outcome Y M) Errno
        opens x = first pid false (open_pipe w (g name) (to x.pipe) x.state pid (process_as g p) a x.pipe)

        shape : (free readers drawn : ℕ) → Option ℕ → Result (Outcome Y M) Errno
        shape free readers drawn pipe =
            refuse_if (nat_le MAX_DESCRIPTORS free) EMFILE
            >> (refuse_if (a.writes && not a.reads && a.nonblock && nat_eq readers 0) ENXIO
            >> (refuse_if (nat_lt MAX_MADE (drawn + 1)) ENFILE
            >> (pipe_of c (S s) (process_as g p) file pipe >>= opens)))

    pub open_path-as : (name : N) (of : ℕ → N) (to : ℕ → M) → ((n : ℕ) → to n ≡ g (of n))
        → (c : Limits) (s : State X N) (pid : ℕ) (p : Process N) (path : List ℕ) (a : Access)
        → open_path w (g name) to c (S s) pid (process_as g p) path a ≡ if_ok O (open_path v name of c s pid p path a)
    open_path-as name of to names c s pid p path a =
        bind-same O (openable s.files p.cred path a) _ _ (λ x. open_fifo-as name of to names c s pid p a x.number)
