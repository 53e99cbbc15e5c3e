-- Descriptors: Dup (dup(2)), Close (close(2)) and SetNonblock (fcntl(2), F_SETFL with O_NONBLOCK).

use Rattle.std.specs.Prelude.{ℕ, Bool, nat_le, Result, Ok}
use Rattle.pf_machine.specs.Refusals.{◌>>=◌, ◌>>◌, refuse_if, or_refuse}
use Rattle.pf_machine.specs.Numbered.{at, clear_at, change_at, keep, first_free}
use Rattle.pf_machine.specs.State.{State, Process, Description, Outcome, with_process, with_descriptor, done}
use Rattle.pf_base.specs.declared.TheConstants.{MAX_DESCRIPTORS}
use Rattle.pf_base.specs.declared.errno.Errno.{Errno}
use Rattle.pf_base.specs.declared.errno.Errno.TheVariants.{EBADF, EMFILE}

-- the name of the description at a descriptor
abbrev pub named : {N : Type 0} → Process N → ℕ → Result N Errno
named p fd = or_refuse EBADF (at p.descriptors fd)

-- the lowest free descriptor names the same description
abbrev pub dup : {X N : Type 0} → State X N → ℕ → Process N → ℕ → Result (Outcome X N) Errno
dup s pid p fd = do
  n ← named p fd
  refuse_if (nat_le MAX_DESCRIPTORS (first_free p.descriptors)) EMFILE
  Ok (done (with_process s pid (with_descriptor (first_free p.descriptors) n p)) (first_free p.descriptors))

-- a process without one of its descriptors
abbrev pub without_descriptor : {N : Type 0} → ℕ → Process N → Process N
without_descriptor fd p = record p { descriptors = clear_at p.descriptors fd }

-- and without its first n: what Exit leaves of one on the way
abbrev pub without_first : {N : Type 0} → ℕ → Process N → Process N
without_first n p = record p { descriptors = keep (λ fd. nat_le n fd) p.descriptors }

abbrev pub close : {X N : Type 0} → State X N → ℕ → Process N → ℕ → Result (Outcome X N) Errno
close s pid p fd = named p fd >>= (λ _. Ok (done (with_process s pid (without_descriptor fd p)) 0))

-- a description with O_NONBLOCK, or without
abbrev pub with_nonblocking : {N : Type 0} → Bool → Description N → Description N
with_nonblocking on d = record d { nonblocking = on }

-- it is the description that has it: all descriptors that name it see it
abbrev pub with_flag : {X N : Type 0} → State X N → ℕ → Bool → State X N
with_flag s n on = record s { descriptions = change_at (with_nonblocking on) s.descriptions n }

abbrev pub set_nonblock : {X N : Type 0} → (N → ℕ) → State X N → Process N → ℕ → Bool → Result (Outcome X N) Errno
set_nonblock number s p fd on = named p fd >>= (λ n. Ok (done (with_flag s (number n) on) 0))
