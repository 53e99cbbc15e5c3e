-- Examples by computation: what the lone machine replies.

use Rattle.std.specs.Prelude.{ℕ, ◌≡◌, Bool, false, true, not, ◌&&◌, ◌||◌, List, [], ◌∷◌, Some, None, refl, replicate, take, nat_lt, nat_le, nat_eq, is_some, slice_set, if◌then◌else◌, Result, Ok, Err as Refused}
use Rattle.std.proofs.Common.{◌<◌, ◌≤◌, length, ap, ◌∙◌, arith}
use Rattle.std.proofs.lemmas.Bool.{lt-ltb, le-ltb, ne_eqb, eq-eqb}
use Rattle.pf_base.specs.Limits.{Limits}
use Rattle.pf_machine.specs.Refusals.{◌>>=◌, ◌>>◌, refuse_if}
use Rattle.pf_machine.specs.Queue.{Segment, Queue, empty, room_of}
use Rattle.pf_machine.specs.Progress.{Passed, moved, portion, put_some, write_now}
use Rattle.pf_machine.specs.State.{itself, State, Process, End, Outcome, vacant, opening, settle, process, writing_end, with_queue}
use Rattle.pf_machine.specs.Counts.{readers}
use Rattle.pf_machine.specs.Pipes.{writing, new_pipe}
use Rattle.pf_machine.specs.Calls.{Writing}
use Rattle.pf_machine.specs.Transfers.{Tried, try_write}
use Rattle.pf_machine.specs.Attempts.{write_told, first, nonblocking, transfer}
use Rattle.pf_machine.specs.Paths.{has_dots}
use Rattle.pf_machine.specs.Machine.{act, step_of, swept, call_of, are_many, hands_many, is_parked, is_refusal, may_want_memory}
use Rattle.pf_base.specs.declared.TheConstants.{PIPE_BUF, MAX_WRITE, MAX_DESCRIPTORS}
use Rattle.pf_machine.specs.Runs.{run_of, lone}
use Rattle.pf_base.specs.declared.progress.Progress.TheVariants.{Moved, NoReader}
use Rattle.pf_base.specs.declared.open_flags.OpenFlags.{OpenFlags}
use Rattle.pf_base.specs.declared.step.Step.TheVariants.{Spawn, Exit, Unlink, Stat, Open, Pipe, Close, Read, Write, Tee, Splice}
use Rattle.pf_base.specs.declared.step.Reply.TheVariants.{Num, Pid, Fds, Bytes, Err}
use Rattle.pf_base.specs.declared.errno.Errno.{Errno}
use Rattle.pf_base.specs.declared.errno.Errno.TheVariants.{ESRCH, EBADF, EAGAIN, EINVAL, ENFILE, EPIPE}

-- a namespace of 16 frames
abbrev small : Limits
small = record { reserve = 16; soft = 16384; hard = 0; max = 1048576 }

-- "hello" through a pipe
hello-replies :
    lone small
    (Spawn 5 5 18 [] ∷ Pipe 1 false ∷ Write 1 1 (104 ∷ 101 ∷ 108 ∷ 108 ∷ 111 ∷ []) ∷ Read 1 0 3 ∷ Read 1 0 10 ∷ Close 1 1 ∷ Read 1 0 10 ∷ Exit 1 ∷ [])
    ≡ Pid 1 ∷ Fds 0 1 ∷ Num 5 ∷ Bytes (104 ∷ 101 ∷ 108 ∷ []) ∷ Bytes (108 ∷ 111 ∷ []) ∷ Num 0 ∷ Bytes [] ∷ Num 0 ∷ []
unfolding vacant
hello-replies = refl

-- a pipe that nobody reads, and the process that writes to it
abbrev unread : State Segment ℕ
unread = (run_of small opening (Spawn 5 5 18 [] ∷ Pipe 1 false ∷ Close 1 0 ∷ [])).state

unread-replies : lone small (Spawn 5 5 18 [] ∷ Pipe 1 false ∷ Close 1 0 ∷ Write 1 1 (97 ∷ []) ∷ Write 1 1 [] ∷ []) ≡ Pid 1 ∷ Fds 0 1 ∷ Num 0 ∷ Err EPIPE ∷ Num 0 ∷ []
unfolding vacant
unread-replies = refl

-- the numbers of processes and descriptors are the lowest free ones
lowest-replies :
    lone (record { reserve = 32; soft = 16384; hard = 0; max = 1048576 })
    (Spawn 5 5 18 [] ∷ Spawn 6 6 18 [] ∷ Exit 1 ∷ Spawn 7 7 18 [] ∷ Pipe 1 false ∷ Close 1 0 ∷ Pipe 2 false ∷ Exit 1 ∷ Exit 9 ∷ Exit 0 ∷ [])
    ≡ Pid 1 ∷ Pid 2 ∷ Num 0 ∷ Pid 1 ∷ Fds 0 1 ∷ Num 0 ∷ Fds 0 1 ∷ Num 0 ∷ Err ESRCH ∷ Err ESRCH ∷ []
unfolding vacant
lowest-replies = refl

-- 17 frames: a pipe of 16 slots, one of a single slot, and no third one until a pipe has gone
reserved-replies :
    lone (record { reserve = 17; soft = 16384; hard = 0; max = 1048576 })
    (Spawn 0 0 18 [] ∷ Pipe 1 true ∷ Pipe 1 true ∷ Pipe 1 true ∷ Close 1 2 ∷ Pipe 1 true ∷ Close 1 3 ∷ Pipe 1 true ∷ [])
    ≡ Pid 1 ∷ Fds 0 1 ∷ Fds 2 3 ∷ Err ENFILE ∷ Num 0 ∷ Err ENFILE ∷ Num 0 ∷ Fds 2 3 ∷ []
unfolding vacant
reserved-replies = refl

-- a descriptor of the wrong side, an empty pipe with a writer, a closed descriptor
refused-replies :
    lone small
    (Spawn 5 5 18 [] ∷ Pipe 1 true ∷ Read 1 1 9 ∷ Write 1 0 (97 ∷ []) ∷ Read 1 0 9 ∷ Read 1 0 0 ∷ Close 1 0 ∷ Read 1 0 9 ∷ Close 1 256 ∷ Read 2 0 9 ∷ [])
    ≡ Pid 1 ∷ Fds 0 1 ∷ Err EBADF ∷ Err EBADF ∷ Err EAGAIN ∷ Bytes [] ∷ Num 0 ∷ Err EBADF ∷ Err EBADF ∷ Err ESRCH ∷ []
unfolding vacant
refused-replies = refl

-- 16 full pages: one byte read leaves no room, the page's other 4,095 bytes read leave a page
full-replies :
    lone small
    (Spawn 5 5 18 [] ∷ Pipe 1 true ∷ Write 1 1 (replicate 65536 97) ∷ Write 1 1 (98 ∷ []) ∷ Read 1 0 1 ∷ Write 1 1 (98 ∷ []) ∷ Read 1 0 4095 ∷ Write 1 1 (98 ∷ []) ∷ [])
    ≡ Pid 1 ∷ Fds 0 1 ∷ Num 65536 ∷ Err EAGAIN ∷ Bytes (97 ∷ []) ∷ Err EAGAIN ∷ Bytes (replicate 4095 97) ∷ Num 1 ∷ []
unfolding vacant
full-replies = refl

-- more than fits: what fits goes in
partly-replies :
    lone (record { reserve = 15; soft = 16384; hard = 0; max = 1048576 })
    (Spawn 5 5 18 [] ∷ Pipe 1 true ∷ Write 1 1 (97 ∷ []) ∷ Write 1 1 (replicate 4096 98) ∷ Write 1 1 (replicate 4097 98) ∷ Write 1 1 (replicate 4097 98) ∷ Read 1 0 2 ∷ [])
    ≡ Pid 1 ∷ Fds 0 1 ∷ Num 1 ∷ Err EAGAIN ∷ Num 4095 ∷ Err EAGAIN ∷ Bytes (97 ∷ 98 ∷ []) ∷ []
unfolding vacant
partly-replies = refl

-- Long writes

-- a write of bytes through an end that writes: refused where they are too many, or as far as it came
abbrev through : State Segment ℕ → End Segment ℕ → List ℕ → Bool → Result Tried Errno
through s e x long = do
  refuse_if long EINVAL
  Ok (try_write s e x 0)

-- what its process is told, or that it waits
abbrev finish : ℕ → ℕ → Bool → List ℕ → Result Tried Errno → Result (Outcome Segment ℕ) Errno
finish pid fd nonblock x tried = (tried >>= (λ t. write_told fd x 0 t t.progress)) >>= first pid nonblock

abbrev write : State Segment ℕ → ℕ → Process ℕ → ℕ → List ℕ → Result (Outcome Segment ℕ) Errno
write s pid p fd x = transfer s pid p false (Writing fd x 0)

too-long : (s : State Segment ℕ) (pid : ℕ) (p : Process ℕ) (fd : ℕ) (x : List ℕ) (e : End Segment ℕ) → writing_end itself s p fd ≡ Ok e → MAX_WRITE < length x → write s pid p fd x ≡ Refused EINVAL
too-long s pid p fd x e is long =
    let flag = nonblocking s p (Writing fd x 0) in
    ap (λ (r : Result (End Segment ℕ) Errno). finish pid fd flag x (r >>= (λ e. through s e x (nat_lt MAX_WRITE (length x))))) is
    ∙ ap (λ b. finish pid fd flag x (through s e x b)) (lt-ltb MAX_WRITE (length x) long)

no-reader : (s : State Segment ℕ) (pid : ℕ) (p : Process ℕ) (fd : ℕ) (x : List ℕ) (e : End Segment ℕ) → writing_end itself s p fd ≡ Ok e → 0 < length x → length x ≤ MAX_WRITE → readers itself s e.description.pipe ≡ 0
    → write s pid p fd x ≡ Refused EPIPE
no-reader s pid p fd x e is some most none =
    let flag = nonblocking s p (Writing fd x 0) in
    ap (λ (r : Result (End Segment ℕ) Errno). finish pid fd flag x (r >>= (λ e. through s e x (nat_lt MAX_WRITE (length x))))) is
    ∙ ap (λ b. finish pid fd flag x (through s e x b)) (le-ltb MAX_WRITE (length x) most)
    ∙ ap
    (λ (w : Passed). finish pid fd flag x (Ok (record { state = with_queue s e.description.pipe w.queue; progress = w.progress; bytes = take (moved w.progress) x; from = None; into = Some e.description.pipe })))
    (unread_now e.pipe.queue _ (nat_le (length x) PIPE_BUF) x some none)
  where
    unread_now : (q : Queue) (readers : ℕ) (whole : Bool) (x : List ℕ) → 0 < length x → readers ≡ 0 → write_now q readers whole x ≡ record { progress = NoReader; queue = q }
    unread_now q readers whole x some none =
        ap (λ t. if t then record { progress = Moved 0; queue = q } else if nat_eq readers 0 then record { progress = NoReader; queue = q } else put_some q x (portion whole (length x) (room_of q))) (ne_eqb (length x) 0 (λ n. omega (arith, some, n)))
        ∙ ap (λ t. if t then record { progress = NoReader; queue = q } else put_some q x (portion whole (length x) (room_of q))) (eq-eqb readers 0 none)

-- the process, and its end that writes to the pipe
abbrev writer : Process ℕ
writer = record { cred = record { uid = 5; gid = 5; groups = []; umask = 18 }; descriptors = slice_set (slice_set (slice_set (vacant MAX_DESCRIPTORS) 0 (Some 0)) 1 (Some 1)) 0 None; parked = None }

abbrev unread-end : End Segment ℕ
unread-end = record { description = writing 0 false; pipe = new_pipe (empty 16) 5 None }

-- up to 1,048,576 bytes are told that nobody reads, more are refused before
unread-write : (x : List ℕ) → 0 < length x → length x ≤ 1048576 → (step_of small unread (Write 1 1 x)).reply ≡ Err EPIPE
unfolding vacant
unread-write x some most = ap (λ (r : Result (Outcome Segment ℕ) Errno). (swept (settle unread r)).reply) (no-reader unread 1 writer 1 x unread-end refl some most refl)

unread-write-long : (x : List ℕ) → 1048576 < length x → (step_of small unread (Write 1 1 x)).reply ≡ Err EINVAL
unfolding vacant
unread-write-long x long = ap (λ (r : Result (Outcome Segment ℕ) Errno). (swept (settle unread r)).reply) (too-long unread 1 writer 1 x unread-end refl long)

-- Want of memory

-- Spawn may want it where it isn't refused; of a process that lives and waits in no call so may Pipe, Open and Unlink,
-- these two also where a path is walked by `.` or `..`, Stat there alone, Read where it hands out many bytes, and
-- Write where it parks with many; Exit, Close, Tee and Splice never
wanted-spawn : (c : Limits) (s : State Segment ℕ) (uid gid umask : ℕ) (groups : List ℕ)
    → may_want_memory c s (Spawn uid gid umask groups)
    ≡ (not (is_refusal (act c s (Spawn uid gid umask groups)).reply) && true)
wanted-spawn c s uid gid umask groups = refl

wanted-pipe : (c : Limits) (s : State Segment ℕ) (pid : ℕ) (nonblock : Bool)
    → may_want_memory c s (Pipe pid nonblock)
    ≡ (not (is_refusal (act c s (Pipe pid nonblock)).reply)
    && (is_some (process s pid) && not (is_some (call_of s pid))))
wanted-pipe c s pid nonblock = refl

wanted-open : (c : Limits) (s : State Segment ℕ) (pid : ℕ) (path : List ℕ) (flags : OpenFlags)
    → may_want_memory c s (Open pid path flags)
    ≡ ((has_dots path || not (is_refusal (act c s (Open pid path flags)).reply))
    && (is_some (process s pid) && not (is_some (call_of s pid))))
wanted-open c s pid path flags = refl

wanted-unlink : (c : Limits) (s : State Segment ℕ) (pid : ℕ) (path : List ℕ)
    → may_want_memory c s (Unlink pid path)
    ≡ ((has_dots path || not (is_refusal (act c s (Unlink pid path)).reply))
    && (is_some (process s pid) && not (is_some (call_of s pid))))
wanted-unlink c s pid path = refl

wanted-stat : (c : Limits) (s : State Segment ℕ) (pid : ℕ) (path : List ℕ)
    → may_want_memory c s (Stat pid path)
    ≡ (has_dots path && (is_some (process s pid) && not (is_some (call_of s pid))))
wanted-stat c s pid path = refl

wanted-read : (c : Limits) (s : State Segment ℕ) (pid fd n : ℕ)
    → may_want_memory c s (Read pid fd n)
    ≡ (hands_many (act c s (Read pid fd n)).reply && (is_some (process s pid) && not (is_some (call_of s pid))))
wanted-read c s pid fd n = refl

wanted-write : (c : Limits) (s : State Segment ℕ) (pid fd : ℕ) (x : List ℕ)
    → may_want_memory c s (Write pid fd x)
    ≡ ((is_parked (act c s (Write pid fd x)).reply && are_many x)
    && (is_some (process s pid) && not (is_some (call_of s pid))))
wanted-write c s pid fd x = refl

unwanted-exit : (c : Limits) (s : State Segment ℕ) (pid : ℕ) → may_want_memory c s (Exit pid) ≡ false
unwanted-exit c s pid = refl

unwanted-close : (c : Limits) (s : State Segment ℕ) (pid fd : ℕ) → may_want_memory c s (Close pid fd) ≡ false
unwanted-close c s pid fd = refl

unwanted-tee : (c : Limits) (s : State Segment ℕ) (pid source sink n : ℕ) (nonblock : Bool)
    → may_want_memory c s (Tee pid source sink n nonblock) ≡ false
unwanted-tee c s pid source sink n nonblock = refl

unwanted-splice : (c : Limits) (s : State Segment ℕ) (pid source sink n : ℕ) (nonblock : Bool)
    → may_want_memory c s (Splice pid source sink n nonblock) ≡ false
unwanted-splice c s pid source sink n nonblock = refl
