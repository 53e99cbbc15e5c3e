-- Processes: Spawn and Exit (the profile's own), Fork (fork(2)).

use Rattle.std.specs.Prelude.{ℕ, ◌+◌, nat_le, not, None, Result, Ok}
use Rattle.pf_machine.specs.Refusals.{◌>>◌, refuse_if}
use Rattle.pf_base.specs.Credentials.{is_valid}
use Rattle.pf_machine.specs.Numbered.{first_free, sum_of}
use Rattle.pf_machine.specs.State.{State, Process, Outcome, vacant, with_process, without_process, told, done}
use Rattle.pf_base.specs.declared.TheConstants.{MAX_PROCESSES, MAX_DESCRIPTORS}
use Rattle.pf_base.specs.declared.cred.Cred.{Cred}
use Rattle.pf_base.specs.declared.errno.Errno.{Errno}
use Rattle.pf_base.specs.declared.errno.Errno.TheVariants.{EAGAIN, EINVAL}
use Rattle.pf_base.specs.declared.step.Reply.TheVariants.{Pid}

-- one more process, under the lowest free pid
abbrev pub born : {X N : Type 0} → State X N → Process N → Result (Outcome X N) Errno
born s p = do
  refuse_if (nat_le MAX_PROCESSES (first_free s.processes)) EAGAIN
  Ok (told (with_process s (first_free s.processes + 1) p) (Pid (first_free s.processes + 1)))

-- with no descriptors
abbrev pub spawn : {X N : Type 0} → State X N → Cred → Result (Outcome X N) Errno
spawn s cred = do
  refuse_if (not (is_valid cred)) EINVAL
  born s (record { cred = cred; descriptors = vacant MAX_DESCRIPTORS; parked = None })

-- with the same credentials, and descriptors that name the same descriptions. Who forks waits in no call
abbrev pub fork : {X N : Type 0} → State X N → Process N → Result (Outcome X N) Errno
fork s p = born s p

-- the process goes, and with it its parked call and its descriptors
abbrev pub exit : {X N : Type 0} → State X N → ℕ → Result (Outcome X N) Errno
exit s pid = Ok (done (without_process s pid) 0)

-- how many processes live, also those that wait in a call
abbrev pub alive : {X N : Type 0} → State X N → ℕ
alive s = sum_of (λ p. 1) s.processes
