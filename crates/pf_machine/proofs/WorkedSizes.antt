-- Examples by computation: what a process is told of its pipes' capacities.

use Rattle.std.specs.Prelude.{◌≡◌, ℕ, false, true, [], ◌∷◌, replicate, refl}
use Rattle.pf_base.specs.Limits.{Limits}
use Rattle.pf_machine.specs.Runs.{lone}
use Rattle.pf_machine.specs.State.{vacant}
use Rattle.pf_base.specs.Capacities.{pages_for}
use Rattle.pf_base.specs.declared.step.Step.{Step}
use Rattle.pf_base.specs.declared.step.Step.TheVariants.{Spawn, Exit, Pipe, Close, Read, Write, Splice, SetSize, GetSize}
use Rattle.pf_base.specs.declared.step.Reply.TheVariants.{Num, Pid, Fds, Bytes, Err}
use Rattle.pf_base.specs.declared.errno.Errno.TheVariants.{EPERM, ESRCH, EBADF, EAGAIN, EBUSY, EINVAL, ENFILE}

-- so many frames, and so many pages for an unprivileged user before its pipes get one page each, or none
abbrev limits : ℕ → ℕ → ℕ → Limits
limits reserve soft hard = record { reserve = reserve; soft = soft; hard = hard; max = 1048576 }

-- an unprivileged process, and one of uid 0
abbrev user : Step
user = Spawn 5 5 18 []

abbrev root : Step
root = Spawn 0 0 18 []

-- a pipe of one page is full as soon as its page is
single-page :
    lone (limits 64 16384 0)
    (user ∷ Pipe 1 true ∷ SetSize 1 1 0 ∷ Write 1 1 (97 ∷ []) ∷ Write 1 1 (replicate 4096 98) ∷ Write 1 1 (replicate 4097 98) ∷ Read 1 0 2 ∷ [])
    ≡ Pid 1 ∷ Fds 0 1 ∷ Num 4096 ∷ Num 1 ∷ Err EAGAIN ∷ Num 4095 ∷ Bytes (97 ∷ 98 ∷ []) ∷ []
unfolding vacant pages_for
single-page = refl

-- "he" is moved into a pipe of one page, which is full then
moved-into-a-page :
    lone (limits 64 16384 0)
    (user ∷ Pipe 1 false ∷ Pipe 1 true ∷ SetSize 1 3 0 ∷ Write 1 1 (104 ∷ 101 ∷ 108 ∷ 108 ∷ 111 ∷ []) ∷ Splice 1 0 3 2 false ∷ Write 1 3 (122 ∷ []) ∷ Read 1 0 9 ∷ Read 1 2 9 ∷ [])
    ≡ Pid 1 ∷ Fds 0 1 ∷ Fds 2 3 ∷ Num 4096 ∷ Num 5 ∷ Num 2 ∷ Err EAGAIN ∷ Bytes (108 ∷ 108 ∷ 111 ∷ []) ∷ Bytes (104 ∷ 101 ∷ []) ∷ []
unfolding vacant pages_for
moved-into-a-page = refl

-- capacities are rounded up; two pages with bytes don't fit into one
rounded-and-busy :
    lone (limits 64 16384 0)
    (user ∷ Pipe 1 false ∷ SetSize 1 0 0 ∷ SetSize 1 0 4097 ∷ SetSize 1 0 1048577 ∷ SetSize 1 0 2147483649 ∷ Write 1 1 (replicate 5000 97) ∷ SetSize 1 0 4096 ∷ GetSize 1 1 ∷ [])
    ≡ Pid 1 ∷ Fds 0 1 ∷ Num 4096 ∷ Num 8192 ∷ Err EPERM ∷ Err EINVAL ∷ Num 5000 ∷ Err EBUSY ∷ Num 8192 ∷ []
unfolding vacant pages_for
rounded-and-busy = refl

-- above the soft limit new pipes have a page each, and the hard limit and the reservation refuse them
above-soft :
    lone (limits 64 17 0)
    (user ∷ Pipe 1 false ∷ Pipe 1 false ∷ Pipe 1 false ∷ GetSize 1 0 ∷ GetSize 1 2 ∷ GetSize 1 4 ∷ [])
    ≡ Pid 1 ∷ Fds 0 1 ∷ Fds 2 3 ∷ Fds 4 5 ∷ Num 65536 ∷ Num 4096 ∷ Num 4096 ∷ []
unfolding vacant
above-soft = refl

above-hard : lone (limits 64 17 17) (user ∷ Pipe 1 false ∷ Pipe 1 false ∷ Pipe 1 false ∷ []) ≡ Pid 1 ∷ Fds 0 1 ∷ Fds 2 3 ∷ Err ENFILE ∷ []
unfolding vacant
above-hard = refl

above-reserve : lone (limits 16 16384 0) (user ∷ Pipe 1 false ∷ Pipe 1 false ∷ []) ≡ Pid 1 ∷ Fds 0 1 ∷ Err ENFILE ∷ []
unfolding vacant
above-reserve = refl

-- a reservation of one page: a pipe of one page, whatever others have
one-page :
    lone (limits 1 16384 0)
    (user ∷ Pipe 1 false ∷ GetSize 1 0 ∷ Write 1 1 (replicate 4096 98) ∷ Read 1 0 2 ∷ [])
    ≡ Pid 1 ∷ Fds 0 1 ∷ Num 4096 ∷ Num 4096 ∷ Bytes (98 ∷ 98 ∷ []) ∷ []
unfolding vacant
one-page = refl

-- a soft limit of 20: the present capacity is no growth, and may be had again after a smaller one
soft-growth :
    lone (limits 64 20 0)
    (user ∷ Pipe 1 false ∷ SetSize 1 0 65537 ∷ SetSize 1 0 4096 ∷ SetSize 1 0 65536 ∷ SetSize 1 0 65536 ∷ [])
    ≡ Pid 1 ∷ Fds 0 1 ∷ Err EPERM ∷ Num 4096 ∷ Num 65536 ∷ Num 65536 ∷ []
unfolding vacant pages_for
soft-growth = refl

-- the reservation holds for uid 0 too, and it alone
root-at-the-reservation : lone (limits 64 20 20) (root ∷ Pipe 1 false ∷ SetSize 1 0 1048577 ∷ SetSize 1 0 262144 ∷ SetSize 1 0 262145 ∷ []) ≡ Pid 1 ∷ Fds 0 1 ∷ Err ENFILE ∷ Num 262144 ∷ Err ENFILE ∷ []
unfolding vacant pages_for
root-at-the-reservation = refl

root-above-the-most : lone (limits 512 20 20) (root ∷ Pipe 1 false ∷ SetSize 1 0 1048577 ∷ []) ≡ Pid 1 ∷ Fds 0 1 ∷ Num 2097152 ∷ []
unfolding vacant pages_for
root-above-the-most = refl

-- a pipe that goes is charged to nobody any more, whether its ends are closed or its process ends
refunded :
    lone (limits 64 17 17)
    (user ∷ Pipe 1 false ∷ Pipe 1 false ∷ Close 1 0 ∷ Pipe 1 false ∷ Close 1 1 ∷ Pipe 1 false ∷ GetSize 1 0 ∷ Exit 1 ∷ user ∷ Pipe 1 false ∷ GetSize 1 0 ∷ [])
    ≡ Pid 1 ∷ Fds 0 1 ∷ Fds 2 3 ∷ Num 0 ∷ Err ENFILE ∷ Num 0 ∷ Fds 0 1 ∷ Num 65536 ∷ Num 0 ∷ Pid 1 ∷ Fds 0 1 ∷ Num 65536 ∷ []
unfolding vacant
refunded = refl

-- who calls, then the descriptor, then the most that anybody may ask for, then the most for the unprivileged
refused :
    lone (limits 64 16384 0)
    (user ∷ root ∷ SetSize 3 0 2147483649 ∷ SetSize 1 0 2147483649 ∷ GetSize 1 0 ∷ Pipe 1 false ∷ SetSize 1 0 2147483649 ∷ SetSize 1 0 2147483648 ∷ Pipe 2 false ∷ SetSize 2 1 2147483649 ∷ SetSize 2 1 2147483648 ∷ [])
    ≡ Pid 1 ∷ Pid 2 ∷ Err ESRCH ∷ Err EBADF ∷ Err EBADF ∷ Fds 0 1 ∷ Err EINVAL ∷ Err EPERM ∷ Fds 0 1 ∷ Err EINVAL ∷ Err ENFILE ∷ []
unfolding vacant pages_for
refused = refl
