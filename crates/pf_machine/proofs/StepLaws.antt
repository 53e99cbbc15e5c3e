-- What each kind of step comes to, in one table: what holds of all changes that steps make holds of what a step leaves.

use Rattle.std.proofs.Common.{◌≡◌, ℕ, zero, suc, ◌+◌, ◌-◌, ◌*◌, ◌<◌, Bool, false, List, length, Option, Some, None, Ok, refl, ap, ◌∙◌, arith}
use Rattle.std.specs.Prelude.{Result, is_some, ⊤}
use Rattle.pf_machine.specs.Refusals.{◌>>=◌, ◌>>◌, refuse_if, or_refuse}
use Rattle.pf_base.specs.Capacities.{pages_for}
use Rattle.pf_base.specs.Limits.{Limits}
use Rattle.pf_base.specs.Permissions.{mode_of}
use Rattle.pf_machine.specs.FileMap.{Files}
use Rattle.pf_machine.specs.FileCalls as calls
use Rattle.pf_machine.specs.Queue.{Segment, empty, with_capacity}
use Rattle.pf_machine.specs.Numbered.{at, first_free}
use Rattle.pf_machine.specs.Calls.{Transfer, Reading, Writing, Bringing, Call}
use Rattle.pf_machine.specs.State.{itself, State, Process, End, Outcome, vacant, living, ready, end_of, with_process, without_process, with_queue, with_descriptor, told, done}
use Rattle.pf_machine.specs.Descriptors.{without_descriptor, with_flag}
use Rattle.pf_machine.specs.Pipes.{opened, first_descriptor, second_descriptor}
use Rattle.pf_machine.specs.Files as files
use Rattle.pf_machine.specs.Files.{with_files, with_new}
use Rattle.pf_machine.specs.Attempts.{transfer, resume}
use Rattle.pf_machine.specs.Opens.{Access, open_path}
use Rattle.pf_machine.specs.Machine.{call}
use Rattle.pf_machine.specs.Replies.{reply_length}
use Rattle.pf_base.specs.declared.TheConstants.{PAGE_SIZE, MAX_DESCRIPTORS}
use Rattle.pf_base.specs.declared.cred.Cred.{Cred}
use Rattle.pf_base.specs.declared.errno.Errno.{Errno}
use Rattle.pf_base.specs.declared.errno.Errno.TheVariants.{ESRCH, EBUSY, EBADF}
use Rattle.pf_base.specs.declared.meta.Kind.{Kind}
use Rattle.pf_base.specs.declared.meta.Kind.TheVariants as kinds
use Rattle.pf_base.specs.declared.progress.Crossing.TheVariants as crossings
use Rattle.pf_base.specs.declared.step.Reply.{Reply}
use Rattle.pf_base.specs.declared.step.Reply.TheVariants as replies
use Rattle.pf_base.specs.declared.step.Step.{Step}
use Rattle.pf_base.specs.declared.step.Step.TheVariants as steps
use Rattle.pf_machine.proofs.HoldsLaws.{Holds, goes, carries, passes, found, gives}

-- a reply that is no error
abbrev pub IsNoError : Reply → Type 0
IsNoError (replies.Err e) = ⊥
IsNoError _ = ⊤

-- what a call leaves of files that takes one away, or gives it another mode
pub data Refiled (files : Files) (c : Cred) (left : Files) : Type 0 where
  Unlinked : (path : List ℕ) → calls.unlink files c path ≡ Ok left → Refiled files c left
  Removed : (path : List ℕ) → calls.rmdir files c path ≡ Ok left → Refiled files c left
  Remoded : (path : List ℕ) (mode : ℕ) → calls.chmod files c path mode ≡ Ok left → Refiled files c left

module _ (s : State Segment ℕ) where
  -- Who makes a step

  pub record Lives (pid : ℕ) (p : Process ℕ) : Type 0 where
    pub counts : 0 < pid
    pub at_place : at s.processes (pid - 1) ≡ Some p

  -- and waits in no call
  pub record Free (pid : ℕ) (p : Process ℕ) : Type 0 where
    pub counts : 0 < pid
    pub at_place : at s.processes (pid - 1) ≡ Some p
    pub free : p.parked ≡ None

  living-lives : (pid : ℕ) → Holds (Lives pid) (living s pid)
  living-lives zero = tt
  living-lives (suc i) = by_process (at s.processes i) refl
    where
      by_process : (o : Option (Process ℕ)) → at s.processes i ≡ o → Holds (Lives (suc i)) (or_refuse ESRCH o)
      by_process None e = tt
      by_process (Some p) e =
          let same : suc i - 1 ≡ i = omega arith in
          record { counts = omega arith; at_place = ap (at s.processes) same ∙ e }

  ready-free : (pid : ℕ) → Holds (Free pid) (ready s pid)
  ready-free pid = goes (Lives pid) (Free pid) (living s pid) _ (living-lives pid) (λ p l. by_call p l p.parked refl)
    where
      by_call : (p : Process ℕ) → Lives pid p → (o : Option (Call ℕ)) → p.parked ≡ o
          → Holds (Free pid) (refuse_if (is_some o) EBUSY >> Ok p)
      by_call p l None f = record { counts = l.counts; at_place = l.at_place; free = f }
      by_call p l (Some call) f = tt

  module _ (Q : Outcome Segment ℕ → Type 0) where
    pub by_living : (pid : ℕ) (f : Process ℕ → Result (Outcome Segment ℕ) Errno)
        → ((p : Process ℕ) → Lives pid p → Holds Q (f p)) → Holds Q (living s pid >>= f)
    by_living pid f h = goes (Lives pid) Q (living s pid) f (living-lives pid) h

    by_ready : (pid : ℕ) (f : Process ℕ → Result (Outcome Segment ℕ) Errno)
        → ((p : Process ℕ) → Free pid p → Holds Q (f p)) → Holds Q (ready s pid >>= f)
    by_ready pid f h = goes (Free pid) Q (ready s pid) f (ready-free pid) h

    -- The changes that steps make which hand out no bytes and move none

    abbrev drawn : ℕ
    drawn = length s.descriptions

    abbrev free_pid : ℕ
    free_pid = first_free s.processes + 1

    abbrev bare : Cred → Process ℕ
    bare cred = record { cred = cred; descriptors = vacant MAX_DESCRIPTORS; parked = None }

    pub record Still : Type 0 where
      pub spawned : (cred : Cred) → Q (told (with_process s free_pid (bare cred)) (replies.Pid free_pid))
      pub forked : (pid : ℕ) (p : Process ℕ) → Free pid p
          → Q (told (with_process s free_pid p) (replies.Pid free_pid))
      pub exited : (pid : ℕ) (p : Process ℕ) → Lives pid p → Q (done (without_process s pid) 0)
      pub duped : (pid : ℕ) (p : Process ℕ) (fd n : ℕ) → Free pid p → at p.descriptors fd ≡ Some n
          → Q (done (with_process s pid (with_descriptor (first_free p.descriptors) n p)) (first_free p.descriptors))
      pub closed : (pid : ℕ) (p : Process ℕ) (fd : ℕ) → Free pid p
          → Q (done (with_process s pid (without_descriptor fd p)) 0)
      pub flagged : (n : ℕ) (on : Bool) → Q (done (with_flag s n on) 0)
      pub piped : (pid : ℕ) (p : Process ℕ) (nonblock : Bool) → Free pid p → (slots : ℕ)
          → Q (told (opened drawn (drawn + 1) (length s.pipes) s pid nonblock (empty slots) p)
          (replies.Fds (first_descriptor p) (second_descriptor p)))
      pub sized : (p : Process ℕ) (fd : ℕ) (e : End Segment ℕ) → end_of itself s p fd ≡ Ok e → (pages : ℕ)
          → Q (done (with_queue s e.description.pipe (with_capacity pages e.pipe.queue)) (PAGE_SIZE * pages))
      pub looked : (r : Reply) → IsNoError r → reply_length r ≡ 0 → Q (told s r)
      pub made : (c : Cred) (kind : Kind) (path : List ℕ) (mode : ℕ) (files : Files)
          → calls.make kind s.files s.files_made c path mode ≡ Ok files → Q (done (with_new s files) 0)
      pub filed : (c : Cred) (files : Files) → Refiled s.files c files → Q (done (with_files s files) 0)
      pub opened : (c : Limits) (pid : ℕ) (p : Process ℕ) (path : List ℕ) (a : Access) → Free pid p
          → Holds Q (open_path itself drawn itself c s pid p path a)

    -- what is to hold besides, of a step that hands out bytes or moves them, or may
    abbrev pub Moves : Step → Type 0
    Moves (steps.Read pid fd n) = (p : Process ℕ) → Free pid p → Holds Q (transfer s pid p false (Reading fd n))
    Moves (steps.Write pid fd x) = (p : Process ℕ) → Free pid p → Holds Q (transfer s pid p false (Writing fd x 0))
    Moves (steps.Tee pid i o n flag) =
        (p : Process ℕ) → Free pid p → Holds Q (transfer s pid p flag (Bringing crossings.Tee i o n))
    Moves (steps.Splice pid i o n flag) =
        (p : Process ℕ) → Free pid p → Holds Q (transfer s pid p flag (Bringing crossings.Splice i o n))
    Moves (steps.List pid path) = (p : Process ℕ) → Free pid p → Holds Q (files.list s p path)
    Moves (steps.Resume pid) = (p : Process ℕ) → Lives pid p → Holds Q (resume s pid p)
    Moves _ = ⊤

    -- the same of a Resume alone; where all transfers and names have it, no more is to hold
    abbrev pub Resumes : Step → Type 0
    Resumes (steps.Resume pid) = Moves (steps.Resume pid)
    Resumes _ = ⊤

    pub all-move : ((pid : ℕ) (p : Process ℕ) (flag : Bool) (call : Transfer) → Free pid p
        → Holds Q (transfer s pid p flag call)) → ((names : List ℕ) → Q (told s (replies.Names names)))
        → (x : Step) → Resumes x → Moves x
    all-move t l (steps.Read pid fd n) r = λ p f. t pid p false (Reading fd n) f
    all-move t l (steps.Write pid fd x) r = λ p f. t pid p false (Writing fd x 0) f
    all-move t l (steps.Tee pid i o n flag) r = λ p f. t pid p flag (Bringing crossings.Tee i o n) f
    all-move t l (steps.Splice pid i o n flag) r = λ p f. t pid p flag (Bringing crossings.Splice i o n) f
    all-move t l (steps.List pid path) r = λ p f. carries Q (calls.list s.files p.cred path) _ l
    all-move t l (steps.Resume pid) r = r
    all-move t l _ r = tt

    module _ (k : Still) (c : Limits) where
      file-made : (pid : ℕ) (kind : Kind) (path : List ℕ) (bits : ℕ)
          → Holds Q (ready s pid >>= (λ p. files.make kind s p path bits))
      file-made pid kind path bits = by_ready pid _ (λ p f. carries Q (mode_of bits) _ (λ mode.
          gives Q (calls.make kind s.files s.files_made p.cred path mode) _ (k.made p.cred kind path mode)))

      -- Most calls are look-ups and refusals, and then one of these changes, or what is to hold besides: of all of them
      -- the last line finds which. A change that is told what was looked up has a line of its own
      pub step-keeps : (x : Step) → Moves x → Holds Q (call c s x)
      step-keeps (steps.Mkdir pid path mode) t = file-made pid kinds.Directory path mode
      step-keeps (steps.Mkfifo pid path mode) t = file-made pid kinds.Fifo path mode
      step-keeps (steps.Unlink pid path) t = by_ready pid _ (λ p f.
          gives Q (calls.unlink s.files p.cred path) _ (λ files e. k.filed p.cred files (Unlinked path e)))
      step-keeps (steps.Rmdir pid path) t = by_ready pid _ (λ p f.
          gives Q (calls.rmdir s.files p.cred path) _ (λ files e. k.filed p.cred files (Removed path e)))
      step-keeps (steps.Chmod pid path bits) t = by_ready pid _ (λ p f. carries Q (mode_of bits) _ (λ mode.
          gives Q (calls.chmod s.files p.cred path mode) _ (λ files e. k.filed p.cred files (Remoded path mode e))))
      step-keeps (steps.Dup pid fd) t = by_ready pid _ (λ p f.
          found Q EBADF (at p.descriptors fd) _ (λ n e. let made = k.duped pid p fd n f e in search (passes, made)))
      step-keeps (steps.SetSize pid fd bytes) t = by_ready pid _ (λ p f. gives Q (end_of itself s p fd) _ (λ e is.
          let made = k.sized p fd e is (pages_for bytes) in search (passes, made)))
      step-keeps _ t =
          search (
            by_ready,
            by_living,
            carries,
            passes,
            t,
            k.spawned,
            k.forked,
            k.exited,
            k.closed,
            k.flagged,
            k.piped,
            k.looked,
            k.opened,
          )
