-- What a call of a namespace does over the frames of its door, and what it is told.

use Rattle.std.specs.Prelude.{◌≡◌, ℕ, ◌<◌, ◌⊎◌, Bool, true, false, List, length, Option, take, ⊤, Result}
use Rattle.std.specs.Prelude.{Ok, Err, nat_le}
use Rattle.pf_base.specs.declared.TheConstants.{BYTES_IN_PLACE, PIPE_BUF}
use Rattle.pf_machine.specs.Refusals.{◌>>=◌}
use Rattle.pf_machine.specs.Queue.{Segment}
use Rattle.pf_machine.specs.Progress.{moved, write_now}
use Rattle.pf_machine.specs.Calls.{Transfer, Call, Moving, Writing}
use Rattle.pf_machine.specs.State.{itself, State, Process, Outcome, ready, change_process, waiting}
use Rattle.pf_machine.specs.Transfers.{Tried, tried}
use Rattle.pf_machine.specs.Attempts.{attempt, first, has_nonblock, transfer}
use Rattle.pf_machine.specs.Machine.{are_many, swept}
use Rattle.pf_machine.specs.Sweep.{sweep}
use Rattle.pf_base.specs.declared.errno.Errno.{Errno}
use Rattle.pf_base.specs.declared.errno.Errno.TheVariants.{EPIPE}
use Rattle.pf_base.specs.declared.fault.Fault.{Fault}
use Rattle.pf_base.specs.declared.fault.Fault.TheVariants as faults
use Rattle.pf_base.specs.declared.progress.Progress.{Progress}
use Rattle.pf_base.specs.declared.progress.Progress.TheVariants.{Moved, WouldBlock, EndOfFile, NoReader}
use Rattle.pf_base.specs.declared.step.Reply.{Reply}
use Rattle.pf_base.specs.declared.step.Reply.TheVariants as replies
use Rattle.pf_frame.specs.Live.{Live}
use Rattle.pf_pipe.specs.Pipe.{CountedPipe, Passes}
use Rattle.pf_ring.specs.Ring.{queue_of}
use Rattle.pf_tables.specs.declared.tables.transfers.FirstWrite.{FirstWrite}
use Rattle.pf_tables.specs.declared.tables.transfers.FirstWrite.TheVariants as tries
use Rattle.pf_tables.specs.declared.tables.transfers.Taken.{Taken}
use Rattle.pf_tables.specs.Meaning.{Namespace, meaning}
use Rattle.pf_tables.specs.Owns.{Owns}

-- Changes

-- the live frames are the namespace's own again, and its state is this one, without what nobody can reach any more
pub record Becomes (f g : Live) (old new : Namespace) (s : State Segment ℕ) : Type 0 where
  pub owns : Owns g new
  pub limits : new.limits ≡ old.limits
  pub state : meaning g new.state ≡ sweep itself s

-- Transfers

-- a transfer that a process tries
abbrev pub attempted : State Segment ℕ → ℕ → Transfer → Result Tried Errno
attempted s pid call = ready s pid >>= (λ p. tried s p call)

-- a call that tries it, where this says whether it is nonblocking
abbrev pub tried_call : State Segment ℕ → ℕ → Bool → Transfer → Result (Outcome Segment ℕ) Errno
tried_call s pid nonblock call = ready s pid >>= (λ p. attempt s pid p (Moving call) >>= first pid nonblock)

-- whether the description at a descriptor of a process has O_NONBLOCK
abbrev pub flag_of : {X : Type 0} → State X ℕ → ℕ → Result (Process ℕ) Errno → Bool
flag_of s fd (Ok p) = has_nonblock itself s p fd
flag_of s fd (Err e) = false

abbrev pub is_nonblocking_at : {X : Type 0} → State X ℕ → ℕ → ℕ → Bool
is_nonblocking_at s pid fd = flag_of s fd (ready s pid)

-- and its call whole, where this is the step's own flag
abbrev pub transferred : State Segment ℕ → ℕ → Bool → Transfer → Result (Outcome Segment ℕ) Errno
transferred s pid flag call = ready s pid >>= (λ p. transfer s pid p flag call)

-- how a first try of a write ends: all its bytes went in, or nobody reads them; or it stops short of its end
abbrev pub IsDone : Progress → ℕ → Type 0
IsDone progress number = (progress ≡ Moved number) ⊎ (progress ≡ NoReader)

abbrev pub IsShort : Progress → ℕ → Type 0
IsShort (Moved n) number = n < number
IsShort WouldBlock number = ⊤
IsShort EndOfFile number = ⊥
IsShort NoReader number = ⊥

pub record Stops (machine : Result Tried Errno) (number : ℕ) : Type 0 where
  pub tried : Tried
  pub is : machine ≡ Ok tried
  pub short : IsShort tried.progress number

-- a read hands out more bytes than a reply holds without memory of the heap
pub record HandsMany (machine : Result Tried Errno) : Type 0 where
  pub tried : Tried
  pub is : machine ≡ Ok tried
  pub number : ℕ
  pub progress : tried.progress ≡ Moved number
  pub many : are_many tried.bytes ≡ true

-- Transfers of a process over a door that goes from d to e

-- nothing was done
abbrev pub Still : {D : Type 0} → D → D → Namespace → Namespace → Type 0
Still d e old new = (new ≡ old) × (e ≡ d)

module _ {D : Type 0} (live : D → Live) (d e : D) (old new : Namespace) (pid : ℕ) (call : Transfer) where
  -- a transfer came as far as the machine's, of which this is true, and left what it leaves, without what nobody can
  -- reach any more. Where no byte was moved, nothing was done
  pub record Came (progress : Progress) (Is : Tried → Type 0) : Type 0 where
    pub tried : Tried
    pub is : attempted (meaning (live d) old.state) pid call ≡ Ok tried
    pub progress_is : tried.progress ≡ progress
    pub holds : Is tried
    pub owns : Owns (live e) new
    pub limits : new.limits ≡ old.limits
    pub state : meaning (live e) new.state ≡ sweep itself tried.state
    pub untouched : moved progress ≡ 0 → Still d e old new

  -- its refusal is the machine's, and nothing was done
  abbrev pub Refused : Errno → Type 0
  Refused err = (attempted (meaning (live d) old.state) pid call ≡ Err err) × Still d e old new

  -- a write of these bytes
  abbrev pub Wrote : List ℕ → Result Progress Errno → Type 0
  Wrote x (Ok progress) = Came progress (λ r. r.bytes ≡ take (moved progress) x)
  Wrote x (Err err) = Refused err

  -- a read, and want of memory
  abbrev pub HasRead : Result Taken Fault → Type 0
  HasRead (Ok t) = Came t.progress (λ r. r.bytes ≡ t.bytes)
  HasRead (Err (faults.Errno err)) = Refused err
  HasRead (Err faults.NoMemory) = Still d e old new

  -- a transfer whose bytes stay in the pipes
  abbrev pub HasCrossed : Result Progress Errno → Type 0
  HasCrossed (Ok progress) = Came progress (λ r. ⊤)
  HasCrossed (Err err) = Refused err

module _ {D : Type 0} (live : D → Live) (d e : D) where
  -- these bytes went into a pipe as far as the machine's do. Where none did, nothing was done
  pub record Put (old new : CountedPipe) (x : List ℕ) (progress : Progress) : Type 0 where
    pub passes : Passes old new (live d) (live e) progress
        (write_now (queue_of (live d) old.ring) old.readers (nat_le (length x) PIPE_BUF) x)
    pub untouched : moved progress ≡ 0 → (new ≡ old) × (e ≡ d)

  -- what is left waits, unless it is not to; or memory was wanted for it, and nothing was done
  abbrev pub PutShort : CountedPipe → CountedPipe → List ℕ → Bool → Result FirstWrite Fault → Type 0
  PutShort old new x nonblocking (Ok (tries.Ended progress)) = ⊥
  PutShort old new x nonblocking (Ok (tries.Short progress)) = (nonblocking ≡ true) × Put old new x progress
  PutShort old new x nonblocking (Ok (tries.Waits write)) =
      (progress : Progress) × (nonblocking ≡ false) × (write ≡ record { bytes = x; written = moved progress })
      × Put old new x progress
  PutShort old new x nonblocking (Err (faults.Errno err)) = ⊥
  PutShort old new x nonblocking (Err faults.NoMemory) =
      (nonblocking ≡ false) × (BYTES_IN_PLACE < length x) × (new ≡ old) × (e ≡ d)

  module _ (old new : Namespace) (pid fd : ℕ) (x : List ℕ) where
    -- the first try of a write of these bytes came so far
    abbrev pub CameFirst : Progress → Type 0
    CameFirst progress = Came live d e old new pid (Writing fd x 0) progress (λ r. r.bytes ≡ take (moved progress) x)

    -- it came to its end; or not, and what is left waits, unless it is not to; or it is refused; or memory was wanted
    -- where the machine's would wait, and nothing was done
    abbrev pub WroteFirst : Result FirstWrite Fault → Type 0
    WroteFirst (Ok (tries.Ended progress)) = CameFirst progress × IsDone progress (length x)
    WroteFirst (Ok (tries.Short progress)) =
        CameFirst progress × IsShort progress (length x) × (is_nonblocking_at old.state pid fd ≡ true)
    WroteFirst (Ok (tries.Waits write)) =
        (progress : Progress) × CameFirst progress × IsShort progress (length x)
        × (is_nonblocking_at old.state pid fd ≡ false) × (write ≡ record { bytes = x; written = moved progress })
    WroteFirst (Err (faults.Errno err)) = Refused live d e old new pid (Writing fd x 0) err
    WroteFirst (Err faults.NoMemory) =
        Stops (attempted (meaning (live d) old.state) pid (Writing fd x 0)) (length x) × Still d e old new
        × (is_nonblocking_at old.state pid fd ≡ false) × (BYTES_IN_PLACE < length x)

-- what a write is told that came to its end at once
abbrev pub write_ended : Progress → Result Reply Fault
write_ended (Moved n) = Ok (replies.Num n)
write_ended WouldBlock = Err (faults.Errno EPIPE)
write_ended EndOfFile = Err (faults.Errno EPIPE)
write_ended NoReader = Err (faults.Errno EPIPE)

-- Waiting

-- a process waits in a call, or in none, and nothing else has changed
abbrev pub waits_in : Option (Call ℕ) → Namespace → ℕ → Namespace
waits_in call n pid = record n { state = change_process (waiting call) n.state pid }

-- Steps

abbrev pub settled : Result (Outcome Segment ℕ) Errno → Result (Outcome Segment ℕ) Errno
settled (Ok o) = Ok (swept o)
settled (Err e) = Err e

-- the reply and the state after are the machine's; or the refusal is, and the state is as it was; or memory was wanted,
-- and nothing has changed
abbrev pub Says : Live → Live → Namespace → Namespace → Result Reply Fault → Result (Outcome Segment ℕ) Errno → Type 0
Says f g old new (Ok reply) machine = settled machine ≡ Ok (record { state = meaning g new.state; reply = reply })
Says f g old new (Err (faults.Errno e)) machine = (machine ≡ Err e) × (meaning g new.state ≡ meaning f old.state)
Says f g old new (Err faults.NoMemory) machine = (new ≡ old) × (g ≡ f)

pub record Told (f g : Live) (old new : Namespace) (result : Result Reply Fault)
    (machine : Result (Outcome Segment ℕ) Errno) : Type 0 where
  pub owns : Owns g new
  pub limits : new.limits ≡ old.limits
  pub says : Says f g old new result machine

-- the answer to a call that was resumed: a refusal ends it too, and is its reply
abbrev pub ended : Result Reply Fault → Result Reply Fault
ended (Ok reply) = Ok reply
ended (Err (faults.Errno e)) = Ok (replies.Err e)
ended (Err faults.NoMemory) = Err faults.NoMemory
