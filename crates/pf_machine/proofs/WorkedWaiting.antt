-- Examples by computation: calls that wait, and opens.

use Rattle.std.specs.Prelude.{ℕ, ◌≡◌, false, true, [], ◌∷◌, refl, replicate, codes, Some, None, Err as Refused}
use Rattle.pf_base.specs.Capacities.{pages_for}
use Rattle.pf_machine.specs.State.{itself, vacant, opening}
use Rattle.pf_machine.specs.Queue.{Segment}
use Rattle.pf_machine.specs.Opens.{access_of, is_waiting, open_fifo}
use Rattle.pf_machine.specs.Runs.{lone}
use Rattle.pf_base.specs.declared.open_flags.OpenFlags.{OpenFlags}
use Rattle.pf_base.specs.declared.step.Step.TheVariants.{Spawn, Fork, Exit, Mkfifo, Unlink, Open, Pipe, Close, Read, Write, Tee, Splice, SetSize, GetSize, SetNonblock, Resume}
use Rattle.pf_base.specs.declared.step.Reply.TheVariants.{Num, Pid, Fds, Bytes, Parked, Err}
use Rattle.pf_base.specs.declared.errno.Errno.TheVariants.{ESRCH, ENXIO, EBADF, EAGAIN, ENOMEM, EPERM, EBUSY, EINVAL, ENFILE, EMFILE, EPIPE}

-- how a FIFO is opened: for reading, for writing, for both, and with O_NONBLOCK
abbrev flags : ℕ → OpenFlags
flags bits = record { 0 = bits }

abbrev r : OpenFlags
r = flags 1

abbrev w : OpenFlags
w = flags 2

abbrev rw : OpenFlags
rw = flags 3

abbrev wn : OpenFlags
wn = flags 6

abbrev rn : OpenFlags
rn = flags 5

abbrev rwn : OpenFlags
rwn = flags 7

-- an open for reading parks, and counts as a reader
a_parked_reader_is_a_reader :
    lone (record { reserve = 64; soft = 16384; hard = 0; max = 1048576 })
    (Spawn 5 5 18 [] ∷ Mkfifo 1 (codes "/f") 384 ∷ Open 1 (codes "/f") wn ∷ Spawn 5 5 18 [] ∷ Open 2 (codes "/f") r ∷ Open 1 (codes "/f") wn ∷ Resume 2 ∷ [])
    ≡ Pid 1 ∷ Num 0 ∷ Err ENXIO ∷ Pid 2 ∷ Parked ∷ Num 0 ∷ Num 0 ∷ []
unfolding vacant pages_for
a_parked_reader_is_a_reader = refl

-- a parked open is finished by an open of the other side that was closed again
the_other_side_came_and_went :
    lone (record { reserve = 64; soft = 16384; hard = 0; max = 1048576 })
    (Spawn 5 5 18 [] ∷ Mkfifo 1 (codes "/f") 384 ∷ Spawn 5 5 18 [] ∷ Open 2 (codes "/f") r ∷ Open 1 (codes "/f") w ∷ Close 1 0 ∷ Resume 2 ∷ Read 2 0 9 ∷ [])
    ≡ Pid 1 ∷ Num 0 ∷ Pid 2 ∷ Parked ∷ Num 0 ∷ Num 0 ∷ Num 0 ∷ Bytes [] ∷ []
unfolding vacant pages_for
the_other_side_came_and_went = refl

-- where the hard limit is passed an open is told ENOMEM
the_hard_limit_of_an_open :
    lone (record { reserve = 64; soft = 17; hard = 17; max = 1048576 })
    (Spawn 5 5 18 [] ∷ Pipe 1 false ∷ Pipe 1 false ∷ Pipe 1 false ∷ Mkfifo 1 (codes "/f") 384 ∷ Open 1 (codes "/f") rw ∷ [])
    ≡ Pid 1 ∷ Fds 0 1 ∷ Fds 2 3 ∷ Err ENFILE ∷ Num 0 ∷ Err ENOMEM ∷ []
unfolding vacant pages_for
the_hard_limit_of_an_open = refl

-- a FIFO made again under a name has a pipe of its own
an_unlinked_fifo_stays_open :
    lone (record { reserve = 64; soft = 16384; hard = 0; max = 1048576 })
    (Spawn 5 5 18 [] ∷ Mkfifo 1 (codes "/f") 384 ∷ Open 1 (codes "/f") rw ∷ Write 1 0 (111 ∷ 108 ∷ 100 ∷ []) ∷ Unlink 1 (codes "/f") ∷ Mkfifo 1 (codes "/f") 384 ∷ Open 1 (codes "/f") rwn ∷ Read 1 1 9 ∷ Read 1 0 9 ∷ [])
    ≡ Pid 1 ∷ Num 0 ∷ Num 0 ∷ Num 3 ∷ Num 0 ∷ Num 0 ∷ Num 1 ∷ Err EAGAIN ∷ Bytes (111 ∷ 108 ∷ 100 ∷ []) ∷ []
unfolding vacant pages_for
an_unlinked_fifo_stays_open = refl

-- a long write parks with its rest, and is told all its bytes
a_long_write_ends :
    lone (record { reserve = 64; soft = 16384; hard = 0; max = 1048576 })
    (Spawn 5 5 18 [] ∷ Pipe 1 false ∷ SetSize 1 0 0 ∷ Fork 1 ∷ Close 1 0 ∷ Write 1 1 (replicate 5000 97) ∷ Read 2 0 1000 ∷ Resume 1 ∷ Read 2 0 3096 ∷ Resume 1 ∷ [])
    ≡ Pid 1 ∷ Fds 0 1 ∷ Num 4096 ∷ Pid 2 ∷ Num 0 ∷ Parked ∷ Bytes (replicate 1000 97) ∷ Parked ∷ Bytes (replicate 3096 97) ∷ Num 5000 ∷ []
unfolding vacant pages_for
a_long_write_ends = refl

-- or, where its last reader goes, how many went in
a_long_write_loses_its_reader :
    lone (record { reserve = 64; soft = 16384; hard = 0; max = 1048576 })
    (Spawn 5 5 18 [] ∷ Pipe 1 false ∷ SetSize 1 0 0 ∷ Fork 1 ∷ Close 1 0 ∷ Write 1 1 (replicate 5000 97) ∷ Close 2 0 ∷ Resume 1 ∷ [])
    ≡ Pid 1 ∷ Fds 0 1 ∷ Num 4096 ∷ Pid 2 ∷ Num 0 ∷ Parked ∷ Num 0 ∷ Num 4096 ∷ []
unfolding vacant pages_for
a_long_write_loses_its_reader = refl

-- a parked open goes with its process
a_parked_open_goes_with_its_process :
    lone (record { reserve = 64; soft = 16384; hard = 0; max = 1048576 })
    (Spawn 5 5 18 [] ∷ Mkfifo 1 (codes "/f") 384 ∷ Spawn 5 5 18 [] ∷ Open 2 (codes "/f") r ∷ Exit 2 ∷ Open 1 (codes "/f") wn ∷ [])
    ≡ Pid 1 ∷ Num 0 ∷ Pid 2 ∷ Parked ∷ Num 0 ∷ Err ENXIO ∷ []
unfolding vacant pages_for
a_parked_open_goes_with_its_process = refl

-- O_NONBLOCK is the description's
the_flag_is_the_descriptions :
    lone (record { reserve = 64; soft = 16384; hard = 0; max = 1048576 })
    (Spawn 5 5 18 [] ∷ Pipe 1 false ∷ Fork 1 ∷ SetNonblock 2 0 true ∷ Read 1 0 1 ∷ Read 1 1 1 ∷ [])
    ≡ Pid 1 ∷ Fds 0 1 ∷ Pid 2 ∷ Num 0 ∷ Err EAGAIN ∷ Err EBADF ∷ []
unfolding vacant pages_for
the_flag_is_the_descriptions = refl

-- a parked process is told EBUSY by every step but Resume and Exit
a_parked_process_is_busy :
    lone (record { reserve = 64; soft = 16384; hard = 0; max = 1048576 })
    (Spawn 5 5 18 [] ∷ Pipe 1 false ∷ Spawn 5 5 18 [] ∷ Read 1 0 1 ∷ GetSize 1 0 ∷ Resume 1 ∷ Resume 2 ∷ Exit 9 ∷ Exit 1 ∷ [])
    ≡ Pid 1 ∷ Fds 0 1 ∷ Pid 2 ∷ Parked ∷ Err EBUSY ∷ Parked ∷ Err EINVAL ∷ Err ESRCH ∷ Num 0 ∷ []
unfolding vacant pages_for
a_parked_process_is_busy = refl

-- a small write that waited is told EPIPE, and waits no more
a_resumed_write_is_told_epipe :
    lone (record { reserve = 64; soft = 16384; hard = 0; max = 1048576 })
    (Spawn 5 5 18 [] ∷ Pipe 1 false ∷ Fork 1 ∷ Close 1 0 ∷ SetSize 1 1 0 ∷ Write 1 1 (replicate 4096 97) ∷ Write 1 1 (98 ∷ []) ∷ Close 2 0 ∷ Resume 1 ∷ Close 1 1 ∷ [])
    ≡ Pid 1 ∷ Fds 0 1 ∷ Pid 2 ∷ Num 0 ∷ Num 4096 ∷ Num 4096 ∷ Parked ∷ Num 0 ∷ Err EPIPE ∷ Num 0 ∷ []
unfolding vacant pages_for
a_resumed_write_is_told_epipe = refl

-- a tee waits for bytes
a_tee_waits_for_bytes :
    lone (record { reserve = 64; soft = 16384; hard = 0; max = 1048576 })
    (Spawn 5 5 18 [] ∷ Pipe 1 false ∷ Pipe 1 false ∷ Fork 1 ∷ Tee 1 0 3 9 false ∷ Write 2 1 (97 ∷ 98 ∷ []) ∷ Resume 1 ∷ Splice 1 0 3 1 false ∷ Read 1 2 9 ∷ [])
    ≡ Pid 1 ∷ Fds 0 1 ∷ Fds 2 3 ∷ Pid 2 ∷ Parked ∷ Num 2 ∷ Num 2 ∷ Num 1 ∷ Bytes (97 ∷ 98 ∷ 97 ∷ []) ∷ []
unfolding vacant pages_for
a_tee_waits_for_bytes = refl

-- the first opener is charged, and the caller's privilege counts
the_opener_is_charged :
    lone (record { reserve = 64; soft = 20; hard = 0; max = 1048576 })
    (Spawn 5 5 18 [] ∷ Mkfifo 1 (codes "/f") 438 ∷ Open 1 (codes "/f") rwn ∷ Spawn 6 6 18 [] ∷ Open 2 (codes "/f") rn ∷ SetSize 2 0 131072 ∷ Spawn 0 0 18 [] ∷ Open 3 (codes "/f") rn ∷ SetSize 3 0 131072 ∷ Pipe 1 false ∷ GetSize 1 1 ∷ [])
    ≡ Pid 1 ∷ Num 0 ∷ Num 0 ∷ Pid 2 ∷ Num 0 ∷ Err EPERM ∷ Pid 3 ∷ Num 0 ∷ Num 131072 ∷ Fds 1 2 ∷ Num 4096 ∷ []
unfolding vacant pages_for
the_opener_is_charged = refl

-- who has no free descriptor is told so before it is told that nobody reads
a_full_process_is_told_emfile :
    open_fifo {X = Segment} itself 0 itself (record { reserve = 64; soft = 16384; hard = 0; max = 1048576 }) opening 1 (record { cred = record { uid = 5; gid = 5; groups = []; umask = 18 }; descriptors = replicate 256 (Some 0); parked = None }) (access_of 6) 1
    ≡ Refused EMFILE
unfolding vacant pages_for
a_full_process_is_told_emfile = refl

-- an open for one side waits for the other; one for both sides, and one with O_NONBLOCK, doesn't wait
a_reader_waits_for_writers : is_waiting (access_of 1) 1 0 ≡ true
a_reader_waits_for_writers = refl

a_writer_waits_for_readers : is_waiting (access_of 2) 0 1 ≡ true
a_writer_waits_for_readers = refl

a_reader_and_writer_waits_for_nobody : is_waiting (access_of 3) 0 0 ≡ false
a_reader_and_writer_waits_for_nobody = refl

a_nonblocking_reader_waits_for_nobody : is_waiting (access_of 5) 0 0 ≡ false
a_nonblocking_reader_waits_for_nobody = refl
