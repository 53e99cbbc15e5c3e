-- A step of a state under other names, with other things in its slots, is the step of the state: what a process is told
-- doesn't depend on what its slots hold, nor on how its descriptions are named.

use Rattle.std.proofs.Common.{◌≡◌, ℕ, zero, suc, ◌+◌, ◌-◌, ◌*◌, if◌then◌else◌, ◌||◌, Bool, List, ◌∷◌, ◌++◌, nat_le, nat_lt, nat_eq, not, is_some, Option, Some, None, Result, Ok, refl, sym, ap, ◌∙◌, []}
use Rattle.std.specs.Option.{option_map, option_and_then}
use Rattle.std.proofs.lemmas.List.{map-set, map-append, length-map}
use Rattle.pf_base.specs.Capacities.{new_capacity, told_as}
use Rattle.pf_base.specs.Credentials.{is_valid}
use Rattle.pf_base.specs.Limits.{Limits}
use Rattle.pf_base.specs.Permissions.{is_privileged}
use Rattle.pf_machine.specs.Refusals.{◌>>=◌, ◌>>◌, refuse_if, or_refuse}
use Rattle.pf_machine.specs.Numbered.{at, put_at, first_free}
use Rattle.pf_machine.proofs.NumberedLaws.{at-map, first_free-map, sum_of-map}
use Rattle.pf_base.specs.declared.TheConstants.{PAGE_SIZE, MAX_MADE, MAX_DESCRIPTORS, MAX_PROCESSES}
use Rattle.pf_base.specs.declared.cred.Cred.{Cred}
use Rattle.pf_base.specs.declared.errno.Errno.{Errno}
use Rattle.pf_base.specs.declared.errno.Errno.TheVariants.{ESRCH, EBUSY, EBADF, EINVAL, EMFILE, EAGAIN, ENFILE}
use Rattle.pf_base.specs.declared.step.Reply.TheVariants.{Pid, Fds}
use Rattle.pf_machine.specs.Queue.{empty}
use Rattle.pf_machine.specs.Calls.{Call}
use Rattle.pf_machine.specs.State.{Process, Description, Pipe, State, Outcome, End, vacant, process, living, ready, end_at, end_of, with_process, with_descriptor, told, done}
use Rattle.pf_machine.specs.Counts.{charged, total, names}
use Rattle.pf_machine.specs.Processes.{born, spawn, exit}
use Rattle.pf_machine.specs.Descriptors.{named, dup, close, without_descriptor, with_nonblocking, with_flag, set_nonblock}
use Rattle.pf_machine.specs.Pipes.{get_size, pipe, opened, new_pipe, reading, writing, with_two, first_descriptor, second_descriptor}
use Rattle.pf_machine.specs.Maps.{if_ok, each, pipe_as, call_as, process_as, description_as, state_as, outcome_as, end_as}
use Rattle.pf_machine.proofs.MapLaws.{vacant-map, second_free-map, bind-same, change_at-map, or_refuse-as, then-as, bind-as}

-- Names alone

module _ {N M : Type 0} (g : N → M) where
  pub with_descriptor-as : (fd : ℕ) (n : N) (p : Process N)
      → with_descriptor fd (g n) (process_as g p) ≡ process_as g (with_descriptor fd n p)
  with_descriptor-as fd n p =
      ap (λ xs. record (process_as g p) { descriptors = xs }) (sym (map-set (option_map g) p.descriptors fd (Some n)))

  pub without_descriptor-as : (fd : ℕ) (p : Process N)
      → without_descriptor fd (process_as g p) ≡ process_as g (without_descriptor fd p)
  without_descriptor-as fd p =
      ap (λ xs. record (process_as g p) { descriptors = xs }) (sym (map-set (option_map g) p.descriptors fd None))

  pub named-as : (p : Process N) (fd : ℕ) → named (process_as g p) fd ≡ if_ok g (named p fd)
  named-as p fd =
      ap (or_refuse EBADF) (at-map g p.descriptors fd) ∙ or_refuse-as g EBADF (at p.descriptors fd)

-- States

module _ {X Y : Type 0} (f : X → Y) {N M : Type 0} (g : N → M) where
  abbrev S : State X N → State Y M
  S = state_as f g

  abbrev O : Outcome X N → Outcome Y M
  O = outcome_as f g

  -- Who makes a step

  pub process-as : (s : State X N) (pid : ℕ) → process (S s) pid ≡ option_map (process_as g) (process s pid)
  process-as s zero = refl
  process-as s (suc i) = at-map (process_as g) s.processes i

  pub living-as : (s : State X N) (pid : ℕ) → living (S s) pid ≡ if_ok (process_as g) (living s pid)
  living-as s pid =
      ap (or_refuse ESRCH) (process-as s pid) ∙ or_refuse-as (process_as g) ESRCH (process s pid)

  waits-as : (o : Option (Call N)) → is_some (option_map (call_as g) o) ≡ is_some o
  waits-as None = refl
  waits-as (Some call) = refl

  pub ready-as : (s : State X N) (pid : ℕ) → ready (S s) pid ≡ if_ok (process_as g) (ready s pid)
  ready-as s pid =
      ap (λ r. r >>= (λ p. refuse_if (is_some p.parked) EBUSY >> Ok p)) (living-as s pid)
      ∙ bind-as (process_as g) (process_as g) (living s pid) _ _ (λ p.
      ap (λ b. refuse_if b EBUSY >> Ok (process_as g p)) (waits-as p.parked)
      ∙ then-as (process_as g) (refuse_if (is_some p.parked) EBUSY) (Ok p) _ refl)

  -- a call of a process that is ready
  pub call-as : {A B : Type 0} (j : A → B) (s : State X N) (pid : ℕ)
      → (k : Process N → Result A Errno) (m : Process M → Result B Errno)
      → ((p : Process N) → m (process_as g p) ≡ if_ok j (k p))
      → (ready (S s) pid >>= m) ≡ if_ok j (ready s pid >>= k)
  call-as j s pid k m same = ap (λ r. r >>= m) (ready-as s pid) ∙ bind-as (process_as g) j (ready s pid) k m same

  pub with_process-as : (s : State X N) (pid : ℕ) (p : Process N)
      → with_process (S s) pid (process_as g p) ≡ S (with_process s pid p)
  with_process-as s pid p =
      ap (λ xs. record (S s) { processes = xs })
      (sym (map-set (option_map (process_as g)) s.processes (pid - 1) (Some p)))

  -- Processes and their descriptors

  pub dup-as : (s : State X N) (pid : ℕ) (p : Process N) (fd : ℕ)
      → dup (S s) pid (process_as g p) fd ≡ if_ok O (dup s pid p fd)
  dup-as s pid p fd =
      ap (λ r. r >>= rest (first_free (process_as g p).descriptors)) (named-as g p fd)
      ∙ ap (λ m. if_ok g (named p fd) >>= rest m) (first_free-map g p.descriptors)
      ∙ bind-as g O (named p fd) _ _ (λ n. then-as O (refuse_if (nat_le MAX_DESCRIPTORS free) EMFILE) (Ok (duped n)) _
      (ap (λ t. Ok (done t free))
      (ap (with_process (S s) pid) (with_descriptor-as g free n p)
      ∙ with_process-as s pid (with_descriptor free n p))))
    where
      free : ℕ
      free = first_free p.descriptors

      duped : N → Outcome X N
      duped n = done (with_process s pid (with_descriptor free n p)) free

      rest : ℕ → M → Result (Outcome Y M) Errno
      rest m n =
          refuse_if (nat_le MAX_DESCRIPTORS m) EMFILE
          >> Ok (done (with_process (S s) pid (with_descriptor m n (process_as g p))) m)

  pub born-as : (s : State X N) (p : Process N) → born (S s) (process_as g p) ≡ if_ok O (born s p)
  born-as s p =
      ap rest (first_free-map (process_as g) s.processes)
      ∙ then-as O (refuse_if (nat_le MAX_PROCESSES free) EAGAIN) (Ok (told alive (Pid (free + 1)))) _
      (ap (λ t. Ok (told t (Pid (free + 1)))) (with_process-as s (free + 1) p))
    where
      free : ℕ
      free = first_free s.processes

      alive : State X N
      alive = with_process s (free + 1) p

      rest : ℕ → Result (Outcome Y M) Errno
      rest m =
          refuse_if (nat_le MAX_PROCESSES m) EAGAIN
          >> Ok (told (with_process (S s) (m + 1) (process_as g p)) (Pid (m + 1)))

  pub spawn-as : (s : State X N) (cred : Cred) → spawn (S s) cred ≡ if_ok O (spawn s cred)
  spawn-as s cred =
      ap (λ xs. refuse_if (not (is_valid cred)) EINVAL >> born (S s) (bare xs)) (sym (vacant-map g MAX_DESCRIPTORS))
      ∙ then-as O (refuse_if (not (is_valid cred)) EINVAL) _ _ (born-as s (bare (vacant MAX_DESCRIPTORS)))
    where
      bare : {L : Type 0} → List (Option L) → Process L
      bare xs = record { cred = cred; descriptors = xs; parked = None }

  pub close-as : (s : State X N) (pid : ℕ) (p : Process N) (fd : ℕ)
      → close (S s) pid (process_as g p) fd ≡ if_ok O (close s pid p fd)
  close-as s pid p fd =
      ap (λ r. r >>= (λ _. Ok (done (with_process (S s) pid (without_descriptor fd (process_as g p))) 0)))
      (named-as g p fd)
      ∙ bind-as g O (named p fd) _ _ (λ n. ap (λ t. Ok (done t 0))
      (ap (with_process (S s) pid) (without_descriptor-as g fd p) ∙ with_process-as s pid (without_descriptor fd p)))

  pub exit-as : (s : State X N) (pid : ℕ) → exit (S s) pid ≡ if_ok O (exit s pid)
  exit-as s pid =
      ap (λ xs. Ok (done (record (S s) { processes = xs }) 0))
      (sym (map-set (option_map (process_as g)) s.processes (pid - 1) None))

  -- What follows names: a name and its image stand for one number

  module _ (v : N → ℕ) (w : M → ℕ) (same : (n : N) → w (g n) ≡ v n) where
    pub set_nonblock-as : (s : State X N) (p : Process N) (fd : ℕ) (on : Bool)
        → set_nonblock w (S s) (process_as g p) fd on ≡ if_ok O (set_nonblock v s p fd on)
    set_nonblock-as s p fd on =
        ap (λ n. n >>= (λ m. Ok (done (with_flag (S s) (w m) on) 0))) (named-as g p fd)
        ∙ bind-as g O (named p fd) _ _ (λ n. ap (λ m. Ok (done (with_flag (S s) m on) 0)) (same n)
        ∙ ap (λ xs. Ok (done (record (S s) { descriptions = xs }) 0))
        (sym (change_at-map (description_as g) flag flag (λ d. refl) s.descriptions (v n))))
      where
        flag : {L : Type 0} → Description L → Description L
        flag = with_nonblocking on

    -- Ends

    pub end_at-as : (s : State X N) (n : ℕ) → end_at w (S s) n ≡ option_map (end_as f g) (end_at v s n)
    end_at-as s n =
        ap (option_and_then (λ d. option_map (end_to d) (at (S s).pipes (w d.pipe))))
        (at-map (description_as g) s.descriptions n)
        ∙ by_row (at s.descriptions n)
      where
        end_from : Description N → Pipe X → End X N
        end_from d p = record { description = d; pipe = p }

        end_to : Description M → Pipe Y → End Y M
        end_to d p = record { description = d; pipe = p }

        by_pipe : (d : Description N) (o : Option (Pipe X))
            → option_map (end_to (description_as g d)) (option_map (pipe_as f) o)
            ≡ option_map (end_as f g) (option_map (end_from d) o)
        by_pipe d None = refl
        by_pipe d (Some p) = refl

        by_row : (o : Option (Description N))
            → option_and_then (λ d. option_map (end_to d) (at (S s).pipes (w d.pipe))) (option_map (description_as g) o)
            ≡ option_map (end_as f g) (option_and_then (λ d. option_map (end_from d) (at s.pipes (v d.pipe))) o)
        by_row None = refl
        by_row (Some d) =
            ap (λ m. option_map (end_to (description_as g d)) (at (S s).pipes m)) (same d.pipe)
            ∙ ap (option_map (end_to (description_as g d))) (at-map (pipe_as f) s.pipes (v d.pipe))
            ∙ by_pipe d (at s.pipes (v d.pipe))

    pub end_of-as : (s : State X N) (p : Process N) (fd : ℕ)
        → end_of w (S s) (process_as g p) fd ≡ if_ok (end_as f g) (end_of v s p fd)
    end_of-as s p fd =
        ap (λ o. or_refuse EBADF (option_and_then (λ n. end_at w (S s) (w n)) o)) (at-map g p.descriptors fd)
        ∙ ap (or_refuse EBADF) (by_name (at p.descriptors fd)) ∙ or_refuse-as (end_as f g) EBADF _
      where
        by_name : (o : Option N)
            → option_and_then (λ n. end_at w (S s) (w n)) (option_map g o)
            ≡ option_map (end_as f g) (option_and_then (λ n. end_at v s (v n)) o)
        by_name None = refl
        by_name (Some n) = ap (end_at w (S s)) (same n) ∙ end_at-as s (v n)

    pub get_size-as : (s : State X N) (p : Process N) (fd : ℕ)
        → get_size w (S s) (process_as g p) fd ≡ if_ok O (get_size v s p fd)
    get_size-as s p fd =
        ap (λ e. e >>= (λ (e : End Y M). Ok (done (S s) (PAGE_SIZE * e.pipe.queue.capacity)))) (end_of-as s p fd)
        ∙ bind-as (end_as f g) O (end_of v s p fd) _ _ (λ e. refl)

  -- Pipe, with the names that it draws

  module _ (x y n : N) where
    opened-as : (s : State X N) (pid : ℕ) (nonblock : Bool) (slots : ℕ) (p : Process N)
        → opened (g x) (g y) (g n) (S s) pid nonblock (empty slots) (process_as g p)
        ≡ S (opened x y n s pid nonblock (empty slots) p)
    opened-as s pid nonblock slots p =
        (λ i. shape (first_free-map g p.descriptors i) (second_free-map g p.descriptors i))
        ∙ (λ i. record (S s) {
          processes = held i;
          descriptions = sym (map-append (option_map (description_as g)) s.descriptions two_ends) i;
          pipes = sym (map-append (option_map (pipe_as f)) s.pipes one_pipe) i;
        })
      where
        two_ends : List (Option (Description N))
        two_ends = Some (reading n nonblock) ∷ Some (writing n nonblock) ∷ []

        one_pipe : List (Option (Pipe X))
        one_pipe = Some (new_pipe (empty slots) p.cred.uid None) ∷ []

        with_both : ℕ → ℕ → Process M
        with_both a b = with_descriptor b (g y) (with_descriptor a (g x) (process_as g p))

        shape : ℕ → ℕ → State Y M
        shape a b = record (S s) {
          processes = put_at (S s).processes (pid - 1) (with_both a b);
          descriptions = (S s).descriptions ++ Some (reading (g n) nonblock) ∷ Some (writing (g n) nonblock) ∷ [];
          pipes = (S s).pipes ++ Some (new_pipe (empty slots) p.cred.uid None) ∷ [];
        }

        both : with_both (first_descriptor p) (second_descriptor p) ≡ process_as g (with_two x y p)
        both =
            ap (with_descriptor (second_descriptor p) (g y)) (with_descriptor-as g (first_descriptor p) x p)
            ∙ with_descriptor-as g (second_descriptor p) y (with_descriptor (first_descriptor p) x p)

        held :
            put_at (S s).processes (pid - 1) (with_both (first_descriptor p) (second_descriptor p))
            ≡ each (process_as g) (put_at s.processes (pid - 1) (with_two x y p))
        held =
            ap (put_at (S s).processes (pid - 1)) both
            ∙ sym (map-set (option_map (process_as g)) s.processes (pid - 1) (Some (with_two x y p)))

    pub pipe-as : (c : Limits) (s : State X N) (pid : ℕ) (p : Process N) (nonblock : Bool)
        → pipe (g x) (g y) (g n) c (S s) pid (process_as g p) nonblock ≡ if_ok O (pipe x y n c s pid p nonblock)
    pipe-as c s pid p nonblock =
        (λ i. shape (first_free-map g p.descriptors i) (second_free-map g p.descriptors i)
        (length-map s.descriptions (option_map (description_as g)) i) (length-map s.pipes (option_map (pipe_as f)) i)
        (sum_of-map (pipe_as f) (λ q. if nat_eq q.owner p.cred.uid then q.queue.capacity else 0) s.pipes i)
        (sum_of-map (pipe_as f) (λ q. q.queue.capacity) s.pipes i))
        ∙ then-as O _ _ _ (then-as O _ _ _ (bind-same O
        (told_as ENFILE (new_capacity c (is_privileged p.cred) (charged s p.cred.uid) (total s))) _ _
        (λ slots. ap (λ t. Ok (told t (Fds (first_descriptor p) (second_descriptor p))))
        (opened-as s pid nonblock slots p))))
      where
        made : Result ℕ Errno → ℕ → ℕ → Result (Outcome Y M) Errno
        made r a b =
            r >>= (λ slots. Ok (told (opened (g x) (g y) (g n) (S s) pid nonblock (empty slots) q) (Fds a b)))
          where
            q : Process M
            q = process_as g p

        shape : (a b d m user all : ℕ) → Result (Outcome Y M) Errno
        shape a b d m user all =
            refuse_if (nat_le MAX_DESCRIPTORS b) EMFILE
            >> (refuse_if (nat_lt MAX_MADE (d + 2) || nat_lt MAX_MADE (m + 1)) ENFILE
            >> made (told_as ENFILE (new_capacity c (is_privileged p.cred) user all)) a b)
