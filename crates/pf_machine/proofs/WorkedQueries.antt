-- Examples by computation: who can go on, and what an end is ready for.

use Rattle.std.specs.Prelude.{ℕ, ◌≡◌, Bool, false, true, [], ◌∷◌, List, refl, replicate, Result, Ok, Err as Refused}
use Rattle.pf_base.specs.Capacities.{pages_for}
use Rattle.pf_base.specs.Limits.{Limits}
use Rattle.pf_base.specs.declared.errno.Errno.{Errno}
use Rattle.pf_base.specs.declared.errno.Errno.TheVariants.{EBUSY, EBADF}
use Rattle.pf_base.specs.declared.readiness.Readiness.{Readiness}
use Rattle.pf_base.specs.declared.step.Step.{Step}
use Rattle.pf_base.specs.declared.step.Step.TheVariants.{Spawn, Fork, Pipe, Close, Read, Write, SetSize}
use Rattle.pf_machine.specs.State.{vacant, opening}
use Rattle.pf_machine.specs.Runs.{run_of}
use Rattle.pf_machine.specs.Queries.{can_go_on, readiness}

abbrev limits : Limits
limits = record { reserve = 64; soft = 16384; hard = 0; max = 1048576 }

-- whether a process can go on after these steps
abbrev goes : List Step → ℕ → Bool
goes steps pid = can_go_on limits (run_of limits opening steps).state pid

-- what its descriptor's pipe is ready for after them
abbrev tells : List Step → ℕ → ℕ → Result Readiness Errno
tells steps pid fd = readiness (run_of limits opening steps).state pid fd

-- process 1 has a pipe, and process 2 waits in a read of it
abbrev a_reader : List Step
a_reader = Spawn 5 5 18 [] ∷ Pipe 1 false ∷ Fork 1 ∷ Read 2 0 10 ∷ []

-- it can't go on
a_reader_waits : goes a_reader 2 ≡ false
unfolding vacant
a_reader_waits = refl

-- nor can who doesn't wait, and who isn't there
who_runs_does_not_go_on : goes a_reader 1 ≡ false
unfolding vacant
who_runs_does_not_go_on = refl

nobody_goes_on : goes a_reader 9 ≡ false
unfolding vacant
nobody_goes_on = refl

-- once there is a byte it can
a_byte_lets_it_go_on : goes (Spawn 5 5 18 [] ∷ Pipe 1 false ∷ Fork 1 ∷ Read 2 0 10 ∷ Write 1 1 (97 ∷ []) ∷ []) 2 ≡ true
unfolding vacant
a_byte_lets_it_go_on = refl

-- and where nobody writes any more
the_end_lets_it_go_on :
    goes (Spawn 5 5 18 [] ∷ Pipe 1 false ∷ Fork 1 ∷ Close 2 1 ∷ Read 2 0 10 ∷ Close 1 1 ∷ []) 2 ≡ true
unfolding vacant
the_end_lets_it_go_on = refl

-- a write of at most a page waits for room for all of it
abbrev a_full_pipe : List Step
a_full_pipe = Spawn 5 5 18 [] ∷ Pipe 1 false ∷ SetSize 1 0 0 ∷ Fork 1 ∷ Write 1 1 (replicate 4096 97) ∷ Write 1 1 (98 ∷ 98 ∷ []) ∷ []

a_whole_write_waits : goes a_full_pipe 1 ≡ false
unfolding vacant pages_for
a_whole_write_waits = refl

-- a process that waits is asked nothing, and an end that isn't there has no pipe
a_reader_is_busy : tells a_reader 2 0 ≡ Refused EBUSY
unfolding vacant
a_reader_is_busy = refl

no_end_is_ready : tells a_reader 1 7 ≡ Refused EBADF
unfolding vacant
no_end_is_ready = refl

-- a pipe of one page with three bytes in it, whose last slot keeps the room of its page
three_bytes : tells (Spawn 5 5 18 [] ∷ Pipe 1 false ∷ SetSize 1 0 0 ∷ Write 1 1 (97 ∷ 98 ∷ 99 ∷ []) ∷ []) 1 1
    ≡ Ok (record { bytes = 3; room = 4093; has_reader = true; has_writer = true })
unfolding vacant pages_for
three_bytes = refl

-- where the reading end was closed nobody reads
nobody_reads : tells (Spawn 5 5 18 [] ∷ Pipe 1 false ∷ Close 1 0 ∷ []) 1 1
    ≡ Ok (record { bytes = 0; room = 65536; has_reader = false; has_writer = true })
unfolding vacant pages_for
nobody_reads = refl
