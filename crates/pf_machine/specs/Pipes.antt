-- Pipes: Pipe (pipe(2)), SetSize and GetSize (fcntl(2), F_SETPIPE_SZ and F_GETPIPE_SZ).

use Rattle.std.specs.Prelude.{ℕ, suc, ◌+◌, ◌-◌, ◌*◌, Bool, true, false, not, ◌&&◌, ◌||◌, [], ◌∷◌, ◌++◌, length, Option, Some, None, List, nat_lt, nat_le, if◌then◌else◌, Result, Ok}
use Rattle.pf_machine.specs.Refusals.{◌>>=◌, ◌>>◌, refuse_if}
use Rattle.pf_base.specs.Limits.{Limits}
use Rattle.pf_machine.specs.Queue.{Slots, empty, with_capacity}
use Rattle.pf_base.specs.Capacities.{pages_for, new_capacity, may_grow, told_as}
use Rattle.pf_machine.specs.Numbered.{put_at, first_free}
use Rattle.pf_machine.specs.State.{State, Process, Description, Pipe, Outcome, end_of, with_queue, with_descriptor, told, done}
use Rattle.pf_machine.specs.Counts.{charged, total}
use Rattle.pf_base.specs.Permissions.{is_privileged}
use Rattle.pf_base.specs.declared.TheConstants.{PAGE_SIZE, MAX_DESCRIPTORS, MAX_SIZE, MAX_MADE}
use Rattle.pf_base.specs.declared.capacity.LimitFault.{LimitFault}
use Rattle.pf_base.specs.declared.cred.Cred.{Cred}
use Rattle.pf_base.specs.declared.errno.Errno.{Errno}
use Rattle.pf_base.specs.declared.errno.Errno.TheVariants.{EPERM, EBUSY, EINVAL, ENFILE, EMFILE}
use Rattle.pf_base.specs.declared.step.Reply.TheVariants.{Fds}

-- a process's lowest free descriptor, and the lowest one behind it
abbrev pub first_descriptor : {N : Type 0} → Process N → ℕ
first_descriptor p = first_free p.descriptors

abbrev pub second_free : {N : Type 0} → List (Option N) → ℕ
second_free [] = 0
second_free (None ∷ xs) = suc (first_free xs)
second_free (Some x ∷ xs) = suc (second_free xs)

abbrev pub second_descriptor : {N : Type 0} → Process N → ℕ
second_descriptor p = second_free p.descriptors

-- with so many more, more than 2 ^ 64 - 1 numbers would have been drawn
abbrev pub is_spent : {X : Type 0} → List (Option X) → ℕ → Bool
is_spent xs more = nat_lt MAX_MADE (length xs + more)

-- a pipe that nobody has opened yet
abbrev pub new_pipe : {X : Type 0} → Slots X → ℕ → Option ℕ → Pipe X
new_pipe queue owner file = record { queue = queue; owner = owner; file = file; read_opens = 0; write_opens = 0 }

-- how many slots a new pipe of these credentials gets, or why it gets none
abbrev pub capacity_for : {X N : Type 0} → Limits → State X N → Cred → Result ℕ LimitFault
capacity_for c s cred = new_capacity c (is_privileged cred) (charged s cred.uid) (total s)

-- an end of a pipe that reads, or one that writes
abbrev pub reading : {N : Type 0} → N → Bool → Description N
reading pipe nonblock = record { pipe = pipe; reads = true; writes = false; nonblocking = nonblock }

abbrev pub writing : {N : Type 0} → N → Bool → Description N
writing pipe nonblock = record { pipe = pipe; reads = false; writes = true; nonblocking = nonblock }

-- a process with two more descriptors, for the descriptions of these names
abbrev pub with_two : {N : Type 0} → N → N → Process N → Process N
with_two r w p = with_descriptor (second_descriptor p) w (with_descriptor (first_descriptor p) r p)

-- one more pipe, owned by a process that has its two ends: r and w are the names of these, n is the pipe's
abbrev pub opened : {X N : Type 0} → N → N → N → State X N → ℕ → Bool → Slots X → Process N → State X N
opened r w n s pid nonblock queue p = record s {
  processes = put_at s.processes (pid - 1) (with_two r w p);
  descriptions = s.descriptions ++ Some (reading n nonblock) ∷ Some (writing n nonblock) ∷ [];
  pipes = s.pipes ++ Some (new_pipe queue p.cred.uid None) ∷ [];
}

abbrev pub pipe : {X N : Type 0} → N → N → N → Limits → State X N → ℕ → Process N → Bool → Result (Outcome X N) Errno
pipe r w n c s pid p nonblock = do
  refuse_if (nat_le MAX_DESCRIPTORS (second_descriptor p)) EMFILE
  refuse_if (is_spent s.descriptions 2 || is_spent s.pipes 1) ENFILE
  slots ← told_as ENFILE (capacity_for c s p.cred)
  Ok (told (opened r w n s pid nonblock (empty slots) p) (Fds (first_descriptor p) (second_descriptor p)))

-- Capacities

-- a pipe grows as far as its owner may, where the caller's privilege counts; it shrinks as far as its slots in use allow
abbrev pub may_resize : {X N : Type 0} → Limits → State X N → Cred → Pipe X → ℕ → Result (Unit {0}) Errno
may_resize c s cred p to =
    if nat_lt p.queue.capacity to
    then told_as EPERM (may_grow c (is_privileged cred) (charged s p.owner) (total s) p.queue.capacity to)
    else refuse_if (nat_lt to (length p.queue.segments)) EBUSY

-- pipe-max-size holds for an unprivileged caller also where the capacity doesn't grow
abbrev pub set_size :
    {X N : Type 0} → (N → ℕ) → Limits → State X N → Process N → ℕ → ℕ → Result (Outcome X N) Errno
set_size number c s p fd bytes = do
  e ← end_of number s p fd
  refuse_if (nat_lt MAX_SIZE bytes) EINVAL
  refuse_if (not (is_privileged p.cred) && nat_lt c.max (PAGE_SIZE * pages_for bytes)) EPERM
  may_resize c s p.cred e.pipe (pages_for bytes)
  Ok (
      done
      (with_queue s (number e.description.pipe) (with_capacity (pages_for bytes) e.pipe.queue))
      (PAGE_SIZE * pages_for bytes)
      )

abbrev pub get_size : {X N : Type 0} → (N → ℕ) → State X N → Process N → ℕ → Result (Outcome X N) Errno
get_size number s p fd = do
  e ← end_of number s p fd
  Ok (done s (PAGE_SIZE * e.pipe.queue.capacity))
