-- The same of SetSize, with the charges that it asks for.

use Rattle.std.proofs.Common.{◌≡◌, ℕ, ◌*◌, ◌&&◌, not, nat_eq, nat_lt, if◌then◌else◌, Result, Ok, refl, sym, ap, ◌∙◌}
use Rattle.std.proofs.lemmas.List.{length-map}
use Rattle.pf_base.specs.Capacities.{pages_for, may_grow, told_as}
use Rattle.pf_base.specs.Limits.{Limits}
use Rattle.pf_base.specs.Permissions.{is_privileged}
use Rattle.pf_base.specs.declared.TheConstants.{PAGE_SIZE, MAX_SIZE}
use Rattle.pf_base.specs.declared.cred.Cred.{Cred}
use Rattle.pf_base.specs.declared.errno.Errno.{Errno}
use Rattle.pf_base.specs.declared.errno.Errno.TheVariants.{EPERM, EBUSY, EINVAL}
use Rattle.pf_machine.specs.Refusals.{◌>>=◌, ◌>>◌, refuse_if}
use Rattle.pf_machine.specs.Queue.{Slots, with_capacity}
use Rattle.pf_machine.specs.State.{Process, Pipe, State, Outcome, End, end_of, holding, change_pipe, with_queue, done}
use Rattle.pf_machine.specs.Pipes.{may_resize, set_size}
use Rattle.pf_machine.specs.Maps.{if_ok, slots_as, pipe_as, process_as, state_as, outcome_as, end_as}
use Rattle.pf_machine.proofs.NumberedLaws.{sum_of-map}
use Rattle.pf_machine.proofs.MapLaws.{change_at-map, then-as, bind-as}
use Rattle.pf_machine.proofs.Natural.{end_of-as}

module _ {X Y : Type 0} (f : X → Y) {N M : Type 0} (g : N → M) where
  abbrev S : State X N → State Y M
  S = state_as f g

  abbrev O : Outcome X N → Outcome Y M
  O = outcome_as f g

  pub change_pipe-as : (h : Pipe X → Pipe X) (k : Pipe Y → Pipe Y)
      → ((p : Pipe X) → k (pipe_as f p) ≡ pipe_as f (h p)) → (s : State X N) (n : ℕ)
      → change_pipe k (S s) n ≡ S (change_pipe h s n)
  change_pipe-as h k same s n =
      ap (λ xs. record (S s) { pipes = xs }) (sym (change_at-map (pipe_as f) h k (λ p. sym (same p)) s.pipes n))

  pub with_queue-as : (s : State X N) (n : ℕ) (q : Slots X)
      → with_queue (S s) n (slots_as f q) ≡ S (with_queue s n q)
  with_queue-as s n q = change_pipe-as (holding q) (holding (slots_as f q)) (λ p. refl) s n

  may_resize-as : (c : Limits) (s : State X N) (cred : Cred) (p : Pipe X) (to : ℕ)
      → may_resize c (S s) cred (pipe_as f p) to ≡ may_resize c s cred p to
  may_resize-as c s cred p to =
      λ i. shape
      (sum_of-map (pipe_as f) (λ q. if nat_eq q.owner p.owner then q.queue.capacity else 0) s.pipes i)
      (sum_of-map (pipe_as f) (λ q. q.queue.capacity) s.pipes i)
      (length-map p.queue.segments f i)
    where
      shape : (user all used : ℕ) → Result (Unit {0}) Errno
      shape user all used =
          if nat_lt p.queue.capacity to
          then told_as EPERM (may_grow c (is_privileged cred) user all p.queue.capacity to)
          else refuse_if (nat_lt to used) EBUSY

  module _ (v : N → ℕ) (w : M → ℕ) (same : (n : N) → w (g n) ≡ v n) where
    pub set_size-as : (c : Limits) (s : State X N) (p : Process N) (fd bytes : ℕ)
        → set_size w c (S s) (process_as g p) fd bytes ≡ if_ok O (set_size v c s p fd bytes)
    set_size-as c s p fd bytes =
        ap (λ r. r >>= resizes) (end_of-as f g v w same s p fd)
        ∙ bind-as (end_as f g) O (end_of v s p fd) _ _ (λ e. then-as O _ _ _ (then-as O _ _ _
        (ap (λ r. r >> resized (end_as f g e)) (may_resize-as c s p.cred e.pipe pages)
        ∙ then-as O (may_resize c s p.cred e.pipe pages) _ _ (ap (λ t. Ok (done t (PAGE_SIZE * pages)))
        (ap (λ n. with_queue (S s) n (slots_as f (with_capacity pages e.pipe.queue))) (same e.description.pipe)
        ∙ with_queue-as s (v e.description.pipe) (with_capacity pages e.pipe.queue))))))
      where
        pages : ℕ
        pages = pages_for bytes

        resized : End Y M → Result (Outcome Y M) Errno
        resized e =
            Ok (done (with_queue (S s) (w e.description.pipe) (with_capacity pages e.pipe.queue)) (PAGE_SIZE * pages))

        resizes : End Y M → Result (Outcome Y M) Errno
        resizes e =
            refuse_if (nat_lt MAX_SIZE bytes) EINVAL
            >> (refuse_if (not (is_privileged p.cred) && nat_lt c.max (PAGE_SIZE * pages)) EPERM
            >> (may_resize c (S s) p.cred e.pipe pages >> resized e))
